-- What a formatted device says is read back, and verify accepts it.
use Rattle.std.proofs.Common.{◌≡◌, ◌≢◌, ℕ, ◌*◌, Bool, true, List, length, take, drop, map, Some, None, Result, Ok, Err, cond, arith, sym, subst, ◌∙◌}
use Rattle.std.{proofs.{Common.{ap, refl, inl, inr}, lemmas.{Bool.Decides.nat_tests, List.{length-take, length-take-le}}}, specs.List.range_with_len}
use Rattle.hex.{specs.Hex.{decode_of, encode_lower, lower_digits}, proofs.HexLemmas.{decode_of-encode_lower, length-encode_with}}
use Rattle.verity_hash.{specs.Hashing.digest_len_of, proofs.{DigestBytes.bytes-salted_hash, HashLemmas.length-salted_hash}}
use Rattle.{verity_plan.specs.{Plans.{PlanFields, plan_at}, Settings.{TreeSettingsFields, hash}}, std.specs.Result.result_ok}
use Rattle.verity_pass.{proofs.HeldTree.holds-right, specs.{Comparing.Judges, Verdicts.verdict, declared.comparing.CompareFault.CompareFault}}
use Rattle.{verity_format.{specs.Superblocks.IsSuperblock, proofs.TextLemmas.text_says}, std.specs.Prelude.{◌==◌, ◌⊎◌, IfErr, IsSome, is_some}}
use Rattle.verity_blocks.specs.{Levels.{block_at, cut, data_blocks, root}, TreeOnDevice.{HoldsTree, tree_block}}
use Rattle.veritysetup.specs.{Options.Settings.{SettingsFields, read_root}, Runs.{Formatted.{IsFormattedDevice, root_above}, GivenBack.IsGivenBack}}
use Rattle.veritysetup.specs.Runs.{HashDevice.{superblock_at, superblock_for}, Verified.{Describes, IsVerified, Trusts}, Verify.{Compares, Verifies}}
use Rattle.veritysetup.specs.declared.{runs.verify_input.VerifyInput.{VerifyInput, TheVariants.{Stored, Given}}, fault.Fault.Fault}
use Rattle.veritysetup.specs.Faults.{compare_status, result_status, side_of, status_of, status_refused, status_verification_failed}
use Rattle.veritysetup.proofs.{SettingsLemmas.{AreValid, plan-made, superblock-valid}, InputLemmas.{trusted-one, trusted-unrefused}}
use Rattle.verity_pass.specs.declared.comparing.CompareFault.TheVariants as compare
use Rattle.veritysetup.specs.declared.fault.Fault.TheVariants as fault

-- ---- the plan

-- what the superblock describes is the plan
plan-back : (s : SettingsFields) → AreValid s → s.superblock ≡ true
    → plan_at s.plan.settings s.plan.blocks s.offset true ≡ Ok s.plan
plan-back s valid has =
    ap (plan_at s.plan.settings s.plan.blocks s.offset) (sym has) ∙ plan-made s valid

-- ---- the root hash

-- the digits of a root hash are read back
pub root-back : (s : TreeSettingsFields) (blocks : List (List ℕ))
    → read_root s.algorithm (encode_lower (root s blocks)) ≡ Some (root s blocks)
unfolding root hash
root-back s blocks =
    let digest = root s blocks in
    let long : length (encode_lower digest) ≡ 2 * digest_len_of s.algorithm =
    length-encode_with lower_digits digest
    ∙ ap (λ (n : ℕ). 2 * n) (length-salted_hash s.algorithm s.rule s.salt _) in
    let right : (length (encode_lower digest) == 2 * digest_len_of s.algorithm) ≡ true =
    grind (arith, nat_tests, long) in
    ap (λ (b : Bool). cond b (result_ok (decode_of (encode_lower digest))) None) right
    ∙ ap result_ok (decode_of-encode_lower digest (bytes-salted_hash s.algorithm s.rule s.salt _))

-- ---- the superblock

-- it is read back
pub superblock-back : (s : SettingsFields) (source before after : List ℕ) → AreValid s
    → IsFormattedDevice s source before after → s.superblock ≡ true
    → IsSuperblock (superblock_at s.offset after) (superblock_for s)
superblock-back s source before after valid formatted has =
    subst (λ (bytes : List ℕ). IsSuperblock bytes (superblock_for s)) (sym (formatted.superblock has))
    (text_says (superblock_for s) (superblock-valid s valid))

-- ---- the tree

-- the covered bytes alone decide the data blocks
pub data_blocks-same : (p : PlanFields) (x y : List ℕ) → take p.wanted x ≡ take p.wanted y
    → data_blocks p x ≡ data_blocks p y
unfolding cut
data_blocks-same p x y same =
    ap (λ (xs : List ℕ). map (block_at p.settings.data_block xs) (range_with_len 0 p.blocks)) same

-- the device holds the tree above all data that has the same covered bytes
holds-same : (s : SettingsFields) (source bytes before after : List ℕ) → IsFormattedDevice s source before after
    → take s.plan.wanted bytes ≡ take s.plan.wanted source → HoldsTree s.plan after bytes (root_above s source)
holds-same s source bytes before after formatted same =
    let p = s.plan in
    let blocks : data_blocks p bytes ≡ data_blocks p source = data_blocks-same p bytes source same in
    record {
      enough = omega (
        arith,
        ap length same,
        length-take-le p.wanted source formatted.tree.enough,
        length-take p.wanted bytes,
      );
      stands = λ l j here. formatted.tree.stands l j here
          ∙ ap (λ (bs : List (List ℕ)). tree_block p.settings bs l j) (sym blocks);
      root_is = ap (root p.settings) blocks;
    }

-- what verify is given is the plan and the root hash of format
given-back : (s : SettingsFields) (source before after : List ℕ) (input : VerifyInput) → AreValid s
    → IsFormattedDevice s source before after → IsGivenBack input s (root_above s source)
    → Trusts input after s.plan (root_above s source)
given-back s source before after (Stored offset text) valid formatted given =
    let digest = root_above s source in
    subst (λ (n : ℕ). Describes n text.now after s.plan digest) (sym given.1)
    (subst (λ (digits : List ℕ). Describes s.offset digits after s.plan digest) (sym given.2)
    (record {
      fields = superblock_for s;
      superblock = superblock-back s source before after valid formatted given.0;
      plan_is = plan-back s valid given.0;
      root_is = root-back s.plan.settings (data_blocks s.plan source);
    }))
given-back s source before after (Given settings) valid formatted given = (sym given.0, given.1)

-- verify accepts a formatted device
pub verified-back : (s : SettingsFields) (input : VerifyInput) (source bytes before after : List ℕ) → AreValid s
    → IsFormattedDevice s source before after → IsGivenBack input s (root_above s source)
    → take s.plan.wanted bytes ≡ take s.plan.wanted source
    → IsVerified input after bytes (drop s.plan.wanted bytes)
verified-back s input source bytes before after valid formatted given same =
    let held = holds-same s source bytes before after formatted same in
    record {
      plan = s.plan;
      root = root_above s source;
      trusted = given-back s source before after input valid formatted given;
      holds = held;
      read = record { enough = held.enough; rest = refl };
    }

-- ---- and nothing else comes of it

-- nothing differs
not-different : (s : SettingsFields) (source bytes before after left : List ℕ) (input : VerifyInput)
    (result : Result Unit CompareFault) → AreValid s → IsFormattedDevice s source before after
    → IsGivenBack input s (root_above s source) → take s.plan.wanted bytes ≡ take s.plan.wanted source
    → Compares input after bytes left result → Judges s.plan after bytes (root_above s source) result
    × (verdict s.plan after bytes (root_above s source) ≡ Ok tt)
not-different s source bytes before after left input result valid formatted given same compared =
    let digest = root_above s source in
    let own =
    trusted-one input after compared.plan s.plan compared.root digest compared.trusted
    (given-back s source before after input valid formatted given) in
    let held = holds-same s source bytes before after formatted same in (
      subst (λ (p : PlanFields). Judges p after bytes digest result) own.0
          (subst (λ (root_hash : List ℕ). Judges compared.plan after bytes root_hash result) own.1 compared.verdict),
      holds-right s.plan after bytes digest held,
    )

-- a superblock that can't be read is no refusal
unread-accepted : (cause : Fault) → cause ≡ fault.SuperblockUnread
    → (status_of cause ≢ status_refused) × (status_of cause ≢ status_verification_failed)
unread-accepted cause unread =
    let four : status_of cause ≡ 4 = ap status_of unread in
    (λ e. absurd (omega (arith, e, four)), λ e. absurd (omega (arith, e, four)))

compared-accepted : (p : PlanFields) (after bytes digest : List ℕ) (cause : CompareFault)
    → Judges p after bytes digest (Err cause) → verdict p after bytes digest ≡ Ok tt
    → (compare_status cause ≢ status_refused) × (compare_status cause ≢ status_verification_failed)
compared-accepted p after bytes digest (compare.Differs level block part) judged right = cc
compared-accepted p after bytes digest (compare.RootDiffers computed) judged right = cc
compared-accepted p after bytes digest (compare.SourceShort block) judged right =
    (λ e. absurd (omega (arith, e)), λ e. absurd (omega (arith, e)))
compared-accepted p after bytes digest (compare.SourceFailed block) judged right =
    (λ e. absurd (omega (arith, e)), λ e. absurd (omega (arith, e)))
compared-accepted p after bytes digest (compare.DeviceFailed level block) judged right =
    (λ e. absurd (omega (arith, e)), λ e. absurd (omega (arith, e)))

pub accepted-back : {X : Type 0} (s : SettingsFields) (source bytes before after left : List ℕ) (input : VerifyInput)
    (outcome : Result X Fault) → AreValid s → IsFormattedDevice s source before after
    → IsGivenBack input s (root_above s source) → take s.plan.wanted bytes ≡ take s.plan.wanted source
    → Verifies input after bytes left outcome
    → (result_status outcome ≢ status_refused) × (result_status outcome ≢ status_verification_failed)
accepted-back s source bytes before after left input (Ok done) valid formatted given same verifies =
    (λ e. absurd (omega (arith, e)), λ e. absurd (omega (arith, e)))
accepted-back s source bytes before after left input (Err fault.Store) valid formatted given same verifies =
    (λ e. absurd (omega (arith, e)), λ e. absurd (omega (arith, e)))
accepted-back s source bytes before after left input (Err (fault.Compare cause)) valid formatted given same verifies =
    let all = not-different s source bytes before after left input (Err cause) valid formatted given same verifies in
    compared-accepted s.plan after bytes (root_above s source) cause all.0 all.1
accepted-back s source bytes before after left input (Err other) valid formatted given same verifies =
    unread-accepted other (trusted-unrefused input after s.plan (root_above s source) other
    (given-back s source before after input valid formatted given) verifies.0)

-- a comparison stops only at a failed call
compared-done : (p : PlanFields) (after bytes digest : List ℕ) (cause : CompareFault)
    → Judges p after bytes digest (Err cause) → verdict p after bytes digest ≡ Ok tt
    → IsSome (side_of (fault.Compare cause))
compared-done p after bytes digest (compare.Differs level block part) judged right = cc
compared-done p after bytes digest (compare.RootDiffers computed) judged right = cc
compared-done p after bytes digest (compare.SourceShort block) judged right = cc
compared-done p after bytes digest (compare.SourceFailed block) judged right = refl
compared-done p after bytes digest (compare.DeviceFailed level block) judged right = refl

pub done-back : {X : Type 0} (s : SettingsFields) (source bytes before after left : List ℕ) (input : VerifyInput)
    (outcome : Result X Fault) → AreValid s → IsFormattedDevice s source before after
    → IsGivenBack input s (root_above s source) → take s.plan.wanted bytes ≡ take s.plan.wanted source
    → Verifies input after bytes left outcome → IfErr outcome (λ cause. (cause ≡ fault.Store) ⊎ IsSome (side_of cause))
done-back s source bytes before after left input (Ok done) valid formatted given same verifies = tt
done-back s source bytes before after left input (Err fault.Store) valid formatted given same verifies = inl refl
done-back s source bytes before after left input (Err (fault.Compare cause)) valid formatted given same verifies =
    let all = not-different s source bytes before after left input (Err cause) valid formatted given same verifies in
    inr (compared-done s.plan after bytes (root_above s source) cause all.0 all.1)
done-back s source bytes before after left input (Err other) valid formatted given same verifies =
    inr (ap (λ (cause : Fault). is_some (side_of cause))
    (trusted-unrefused input after s.plan (root_above s source) other
    (given-back s source before after input valid formatted given) verifies.0))
