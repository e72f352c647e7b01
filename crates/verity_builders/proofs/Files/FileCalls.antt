-- Pieces that are fed to the builder of a file, and calls that ask it for its root hash between them.
use Rattle.std.proofs.{Common.{◌≡◌, ℕ, List, [], ◌∷◌, ◌++◌, map, refl, ◌∙◌, append_assoc}, lemmas.List.{append-nil, Folds.flat_map-map}}
use Rattle.{std.specs.List.flat_map, verity_builders.specs.declared.file_builder.FileBuilder.FileBuilder}
use Rattle.verity_builders.specs.Feeding.{FeedsPieces, FileCall, IsAfterCall, IsAfterCalls, IsFedFile, asks, bytes_fed, feeds}

-- after one call the settings are those before it, and the bytes those before it and those that are fed with it
call-fed : (b after : FileBuilder) (memory memory_after fed : List ℕ) (call : FileCall)
    → IsAfterCall b memory call after memory_after → IsFedFile b memory fed
    → (after.settings ≡ b.settings) × IsFedFile after memory_after (fed ++ bytes_fed call)
call-fed b after memory memory_after fed (feeds piece) step h = (step.0, step.1 fed h)
call-fed b after memory memory_after fed asks step h = rw (append-nil, step.0) (refl, step.1 fed h)

-- and after several
pub asked-joined : (b after : FileBuilder) (memory memory_after fed : List ℕ) (calls : List FileCall)
    → IsFedFile b memory fed → IsAfterCalls b memory calls after memory_after
    → (after.settings ≡ b.settings) × IsFedFile after memory_after (fed ++ flat_map bytes_fed calls)
unfolding IsAfterCalls
asked-joined b after memory memory_after fed [] h calls = rw (append-nil, calls.1, calls.0) (refl, h)
asked-joined b after memory memory_after fed (call ∷ rest) h calls =
    let first = call-fed b calls.0 memory calls.1 fed call calls.2 h in
    let others = asked-joined calls.0 after calls.1 memory_after (fed ++ bytes_fed call) rest first.1 calls.3 in
    rw (← append_assoc) (others.0 ∙ first.0, others.1)

-- pieces are fed one after another
pub pieces-joined : (b after : FileBuilder) (memory memory_after fed : List ℕ) (pieces : List (List ℕ))
    → IsFedFile b memory fed → FeedsPieces b memory pieces after memory_after
    → (after.settings ≡ b.settings) × IsFedFile after memory_after (fed ++ flat_map (λ piece. piece) pieces)
pieces-joined b after memory memory_after fed pieces h calls =
    rw (← flat_map-map bytes_fed feeds pieces)
    (asked-joined b after memory memory_after fed (map feeds pieces) h calls)
