-- A run over files, file after file.
use Rattle.std.proofs.Common.{◌≡◌, ℕ, zero, suc, ◌+◌, ◌<◌, ◌≤◌, List, [], ◌∷◌, ◌++◌, length, take, Bool, true, false, inl, inr, Option, Some, None}
use Rattle.std.proofs.{Common.{Result, Ok, Err, refl, ap, sym, subst, not, add-one, arith}, lemmas.Option.get_or_from_slice_get}
use Rattle.std.specs.{Prelude.{◌↔◌, ◌⊎◌, IfErr, IsOk, OnOk, slice_get}, List.prefix_len, Io.KnownBytes.Appends}
use Rattle.command_line.{proofs.Prefixes.{Keeps-refl, appends_kept}, specs.declared.writing.print_fault.PrintFault.TheVariants.Output}
use Rattle.{verity_io.proofs.KnownLemmas.appends_twice, verity_plan.specs.Settings.TreeSettingsFields}
use Rattle.fsverity.specs.{Faults.{IsTold, result_status, status_failed, status_of}, Texts.Lines.digest_line, Openers.Opening.OpenerChange}
use Rattle.fsverity.specs.Runs.Digest.{EndsAt, HasReason, IsLargeAt, IsPartOfDigestLine, first_without_digest, has_digest}
use Rattle.fsverity.specs.{Runs.Digested.{AreDigestLines, DigestInput, IsDigestAt, digest_line_at}, declared.fault.Fault.Fault}
use Rattle.fsverity.specs.Runs.DigestSteps.{ComesBeforeLine, HasDigestAt, StopsRun, StopsStep, WritesStep}
use Rattle.fsverity.specs.declared.fault.Fault.TheVariants.{Unopened, Digest, Descriptor, DigestLine}
use Rattle.fsverity.specs.declared.runs.digest_fault.DigestFault.TheVariants.{TooLarge, SourceShort, SourceFailed, DeviceFailed, Memory}
use Rattle.command_line.specs.declared.writing.print_fault.PrintFault.TheVariants as print
use Rattle.fsverity.specs.declared.fault.Fault.TheVariants as ending

-- one more element passes
pub passes_more : {A : Type 0} (p : A → Bool) (xs : List A) (i : ℕ) (x : A) → slice_get xs i ≡ Some x → p x ≡ true →
    i ≤ prefix_len p xs → i + 1 ≤ prefix_len p xs
passes_more p [] i x is passes le = absurd cc
passes_more p (y ∷ ys) zero x is passes le =
    let same : y ≡ x = cc in
    rw (same, passes) (omega arith)
passes_more p (y ∷ ys) (suc i) x is passes le = go (passes_more p ys i x is passes) (p y) refl
  where
    go : (i ≤ prefix_len p ys → i + 1 ≤ prefix_len p ys) → (b : Bool) → p y ≡ b → suc i + 1 ≤ prefix_len p (y ∷ ys)
    go next true e = let le' : suc i ≤ 1 + prefix_len p ys = rw e at le in
        let more : i + 1 ≤ prefix_len p ys = next (omega (arith, le')) in
        rw e (omega (arith, more))
    go next false e = let none : suc i ≤ 0 = rw e at le in absurd (omega (arith, none))

-- the first element that doesn't pass
passes_to : {A : Type 0} (p : A → Bool) (xs : List A) (i : ℕ) (x : A) → slice_get xs i ≡ Some x → p x ≡ false →
    i ≤ prefix_len p xs → prefix_len p xs ≡ i
passes_to p [] i x is fails le = absurd cc
passes_to p (y ∷ ys) zero x is fails le =
    let same : y ≡ x = cc in
    rw (same, fails) refl
passes_to p (y ∷ ys) (suc i) x is fails le = go (passes_to p ys i x is fails) (p y) refl
  where
    go : (i ≤ prefix_len p ys → prefix_len p ys ≡ i) → (b : Bool) → p y ≡ b → prefix_len p (y ∷ ys) ≡ suc i
    go next true e = let le' : suc i ≤ 1 + prefix_len p ys = rw e at le in
        let same : prefix_len p ys ≡ i = next (omega (arith, le')) in
        rw e (omega (arith, same))
    go next false e = let none : suc i ≤ 0 = rw e at le in absurd (omega (arith, none))

-- a step that stopped before its line was made
pub wrote_nothing : (s : TreeSettingsFields) (line_of : List ℕ → List ℕ) (told : Type 0) (files : List (Option (List ℕ)))
    (i : ℕ) (fault : Fault) (held : Option (List ℕ)) → ComesBeforeLine fault
    → WritesStep s line_of told files i (Err fault) held held
wrote_nothing s line_of told files i (Unopened name) held early = Keeps-refl held
wrote_nothing s line_of told files i (Digest cause name) held early = Keeps-refl held
wrote_nothing s line_of told files i (DigestLine cause) held early = absurd early
wrote_nothing s line_of told files i (Descriptor count) held early = absurd early
wrote_nothing s line_of told files i (ending.Words cause) held early = absurd early
wrote_nothing s line_of told files i (ending.Line cause) held early = absurd early
wrote_nothing s line_of told files i (ending.Option cause) held early = absurd early

-- a digest at an index of the same files, which are still told if they were at first
same_digest : (s : TreeSettingsFields) (told told' : Type 0) (files files' : List (Option (List ℕ))) (i i' : ℕ) (digest : List ℕ)
    → (told → told') → files' ≡ files → i' ≡ i → IsDigestAt s told' files' i' digest → IsDigestAt s told files i digest
same_digest s told told' files files' i i' digest still same index is = record {
  size = is.size;
  fits = is.fits;
  root = is.root;
  root_length = is.root_length;
  digest_is = is.digest_is;
  of_file = λ t. rw (same, index) at (is.of_file (still t));
}

-- the line of a name
line_named : (run : DigestInput) (i : ℕ) (name digest : List ℕ) → slice_get run.names i ≡ Some name →
    digest_line_at run i digest ≡ digest_line run.form run.settings.algorithm digest name
line_named run i name digest named =
    ap (λ n. digest_line run.form run.settings.algorithm digest n) (get_or_from_slice_get run.names i name [] named)

-- one more line
pub line_more : (run : DigestInput) (told told' : Type 0) (files files' : List (Option (List ℕ))) (i i' : ℕ)
    (name : List ℕ) (old mid new : Option (List ℕ)) → slice_get run.names i ≡ Some name →
    (told → told') → files' ≡ files → i' ≡ i →
    ((lines : List ℕ) × AreDigestLines run told files i lines × Appends old mid lines) →
    ((digest : List ℕ) × IsDigestAt run.settings told' files' i' digest
    × Appends mid new (digest_line run.form run.settings.algorithm digest name)) →
    (lines : List ℕ) × AreDigestLines run told files (i + 1) lines × Appends old new lines
line_more run told told' files files' i i' name old mid new named still same index so_far step =
    let whole : digest_line_at run i step.0 ≡ digest_line run.form run.settings.algorithm step.0 name
    = line_named run i name step.0 named in
    let digest : IsDigestAt run.settings told files i step.0
    = same_digest run.settings told told' files files' i i' step.0 still same index step.1 in
    let more : AreDigestLines run told files (suc i) (so_far.0 ++ digest_line_at run i step.0)
    = (so_far.0, step.0, so_far.1, digest, refl) in
    let added : Appends mid new (digest_line_at run i step.0)
    = subst (λ (text : List ℕ). Appends mid new text) (sym whole) step.2 in (
      so_far.0 ++ digest_line_at run i step.0,
      rw add-one more,
      appends_twice old mid new so_far.0 (digest_line_at run i step.0) so_far.2 added,
    )

-- what is written of the line of the file that ends the run
pub part_of_digest_line : (run : DigestInput) (told told' : Type 0) (files files' : List (Option (List ℕ))) (i i' : ℕ)
    (name : List ℕ) (fault : Fault) (mid new : Option (List ℕ)) → slice_get run.names i ≡ Some name →
    (told → told') → files' ≡ files → i' ≡ i →
    WritesStep run.settings (λ digest. digest_line run.form run.settings.algorithm digest name) told' files' i'
    (Err fault) mid new → (part : List ℕ) × IsPartOfDigestLine run told files i fault part × Appends mid new part
part_of_digest_line run told told' files files' i i' name (DigestLine (Output count)) mid new named still same index step =
    let whole : digest_line run.form run.settings.algorithm step.0 name ≡ digest_line_at run i step.0
    = sym (line_named run i name step.0 named) in
    let digest : IsDigestAt run.settings told files i step.0
    = same_digest run.settings told told' files files' i i' step.0 still same index step.1 in
    let fewer : count < length (digest_line_at run i step.0)
    = subst (λ (text : List ℕ). count < length text) whole step.2 in
    let added : Appends mid new (take count (digest_line_at run i step.0))
    = subst (λ (text : List ℕ). Appends mid new (take count text)) whole step.3 in
    (take count (digest_line_at run i step.0), (step.0, digest, fewer, refl), added)
part_of_digest_line run told told' files files' i i' name (DigestLine print.Memory) mid new named still same index step =
    ([], refl, appends_kept mid new step)
part_of_digest_line run told told' files files' i i' name (Unopened at) mid new named still same index step =
    ([], refl, appends_kept mid new step)
part_of_digest_line run told told' files files' i i' name (Digest cause at) mid new named still same index step =
    ([], refl, appends_kept mid new step)
part_of_digest_line run told told' files files' i i' name (Descriptor count) mid new named still same index step =
    ([], refl, appends_kept mid new step)
part_of_digest_line run told told' files files' i i' name (ending.Words cause) mid new named still same index step =
    ([], refl, appends_kept mid new step)
part_of_digest_line run told told' files files' i i' name (ending.Line cause) mid new named still same index step =
    ([], refl, appends_kept mid new step)
part_of_digest_line run told told' files files' i i' name (ending.Option cause) mid new named still same index step =
    ([], refl, appends_kept mid new step)

-- a file that has a digest is before the first that has none, if no file before it is absent or too large
before_first_without_digest : (s : TreeSettingsFields) (files : List (Option (List ℕ))) (f : ℕ) → HasDigestAt s files f → f ≤ first_without_digest s files →
    f < first_without_digest s files
before_first_without_digest s files f one within =
    let more : f + 1 ≤ first_without_digest s files = passes_more (has_digest s) files f (Some one.0) one.1 one.2 within in
    omega (arith, more)

-- a step that stops ends the run, if no file before its own is absent or too large
pub stops_run : (s : TreeSettingsFields) (run step : OpenerChange) (f : ℕ) (fault : Fault) →
    (run.told ↔ step.told) → step.files ≡ run.files → step.next_before ≡ f → (run.told → f ≤ first_without_digest s run.files) →
    run.failures_before ≤ step.failures_before → run.failures_after ≡ step.failures_after →
    StopsStep s step fault → HasReason s run f fault
stops_run s run step f (Unopened name) told same index within le after (inl absent) =
    let is : slice_get run.files f ≡ Some None = rw (same, index) at absent.1 in
    inl (told.1 absent.0, is, passes_to (has_digest s) run.files f None is refl (within (told.1 absent.0)))
stops_run s run step f (Unopened name) told same index within le after (inr rose) = inr (omega (arith, le, after, rose))
stops_run s run step f (Digest TooLarge name) told same index within le after large = λ t.
    let large' : IsLargeAt s run.files f = rw (same, index) at (large (told.0 t)) in
    (large', passes_to (has_digest s) run.files f (Some large'.0) large'.1 (ap not large'.2) (within t))
stops_run s run step f (Digest (SourceShort i) name) told same index within le after reason = λ t. reason (told.0 t)
stops_run s run step f (Digest (SourceFailed i) name) told same index within le after reason = (
  λ t. before_first_without_digest s run.files f (rw (same, index) at (reason.0 (told.0 t))) (within t),
  omega (arith, le, after, reason.1),
)
stops_run s run step f (Digest (DeviceFailed level block) name) told same index within le after reason = reason
stops_run s run step f (Digest Memory name) told same index within le after one =
    λ t. before_first_without_digest s run.files f (rw (same, index) at (one (told.0 t))) (within t)
stops_run s run step f (DigestLine cause) told same index within le after one =
    λ t. before_first_without_digest s run.files f (rw (same, index) at (one (told.0 t))) (within t)
stops_run s run step f (Descriptor count) told same index within le after reason = reason
stops_run s run step f (ending.Words cause) told same index within le after reason = reason
stops_run s run step f (ending.Line cause) told same index within le after reason = reason
stops_run s run step f (ending.Option cause) told same index within le after reason = reason

-- what holds of a run that is done
pub of_done : {X P : Type 0} (outcome : Result X Fault) → IsOk outcome → OnOk outcome P → P
of_done (Ok done) ok holds = holds
of_done (Err fault) ok holds = cc

-- a run whose faults are failures is done or failed
pub status_either : {X : Type 0} (outcome : Result X Fault) → IfErr outcome (λ fault. status_of fault ≡ status_failed) →
    (result_status outcome ≡ 0) ⊎ (result_status outcome ≡ 1)
status_either (Ok done) fails = inl refl
status_either (Err fault) fails = inr fails

-- a run that ended early did so at a file, with the message of its fault
pub ended_with : {X : Type 0} (run : DigestInput) (opener : OpenerChange) (out out' msgs msgs' : Option (List ℕ))
    (outcome : Result X Fault) (status : ℕ) → status ≡ result_status outcome → status ≡ 1 →
    IfErr outcome (StopsRun run opener out out') →
    IsTold outcome msgs msgs' → EndsAt run opener out out' msgs msgs'
ended_with run opener out out' msgs msgs' (Ok done) status is one stops message =
    let none : status ≡ 0 = is in
    absurd (omega (arith, none, one))
ended_with run opener out out' msgs msgs' (Err fault) status is one stops message =
    record { f = stops.0; fault = fault; fails = stops.1; message = message }
