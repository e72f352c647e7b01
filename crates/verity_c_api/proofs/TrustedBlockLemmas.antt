-- A block that is accepted by parameters and a root hash with a trusted file digest.
use Rattle.std.proofs.Common.{◌≡◌, ◌⊎◌, ℕ, ◌*◌, ◌^◌, ◌<◌, ◌≤◌, Bool, true, false, List, [], get_or, length, take, Result, Ok, Err, if◌then◌else◌}
use Rattle.std.proofs.{Common.{arith, ap, refl, sym, subst, ◌∙◌, inl, inr}, lemmas.{Bool.{eqb-true, Decides.nat_tests}, List.take_all}}
use Rattle.verity_hash.{proofs.HashLemmas.length-hash_of, specs.{Hashing.hash_of, declared.algorithm.Algorithm.Algorithm}}
use Rattle.{verity_format.proofs.DescriptorLemmas.{algorithm_by_length, one-descriptor}, verity_plan.specs.Settings.{TreeSettingsFields, digest_len}}
use Rattle.{verity_format.specs.Descriptors.{DescriptorFields, IsValidDescriptor, descriptor_bytes, digest_of_file}, std.specs.Prelude.{◌==◌, not}}
use Rattle.verity_plan.{proofs.{CountLemmas.le-div_ceil, FanLemmas.some_data}, specs.Plans.{IsPlan, PlanFields, block_count, plan_of_file}}
use Rattle.verity_pass.proofs.{AcceptedPaths.accepted-true, PathSteps.same_or_two, RootLevels.{length-root_of_file, root_of_some}}
use Rattle.verity_pass.specs.{Collisions.Collide, Paths.{ChecksBlock, IsAccepted}, declared.path.PathFault.PathFault}
use Rattle.{verity_blocks.specs.Levels.{block_at, cut, data_blocks, root, root_of_file}, std.proofs.lemmas.List.FromFn.get_or-map-range_with_len}
use Rattle.verity_c_api.{proofs.{ParameterLemmas.{file_plan-made, file_settings-made}, StatusLemmas.fault-not_done}, specs.Building.digest_of_fed}
use Rattle.verity_c_api.specs.{Answers.{AnswersBlock, descriptor_in, file_digest_in, with_root}, Parameters.{fsverity_plan_of, fsverity_tree_of}}
use Rattle.verity_c_api.specs.{Statuses.{done, path_status}, TrustedBlocks.{FileBlock, IsAcceptedFor, IsBlockOf, ShowsCollision, descriptor_of_bytes}}
use Rattle.verity_c_api.specs.declared.{fault.Fault.Fault, parameters.FsverityParams.FsverityParams}
use Rattle.verity_pass.specs.declared.path.PathFault.TheVariants as of_path
use Rattle.verity_c_api.specs.declared.fault.Fault.TheVariants as fault

-- with the status of a call that is done, a path was accepted
path-accepted : (p : PlanFields) (i : ℕ) (block path root : List ℕ) (answer : Result Unit PathFault)
    → ChecksBlock p i block path root answer → done ≡ path_status answer → IsAccepted p i block path root
path-accepted p i block path digest (Ok _) checked is = checked
path-accepted p i block path digest (Err of_path.Index) checked is = absurd (fault-not_done fault.Index is)
path-accepted p i block path digest (Err of_path.Length) checked is = absurd (fault-not_done fault.Length is)
path-accepted p i block path digest (Err (of_path.DiffersAt l)) checked is = absurd (fault-not_done fault.Differs is)

-- a block that a plan's path has been accepted for
record IsAcceptedBy (made : Result PlanFields Fault) (i : ℕ) (block path root : List ℕ) : Type 0 where
  plan : PlanFields
  made_is : made ≡ Ok plan
  long : length root ≡ digest_len plan.settings
  accepted : IsAccepted plan i block path root

block-accepted : (made : Result PlanFields Fault) (i : ℕ) (block path root : List ℕ) (before after : ℕ)
    → AnswersBlock (with_root made root) i block path root done before after
    → IsAcceptedBy made i block path root
block-accepted (Err why) i block path root before after answers = absurd (fault-not_done why answers.status_is)
block-accepted (Ok p) i block path root before after answers =
    by_test (length root == digest_len p.settings) refl answers
  where
    by_test : (long : Bool) → (length root == digest_len p.settings) ≡ long
        → AnswersBlock (if long then Ok p else Err fault.Root) i block path root done before after
        → IsAcceptedBy (Ok p) i block path root
    by_test true test given = record {
      plan = p;
      made_is = refl;
      long = eqb-true (length root) (digest_len p.settings) test;
      accepted = path-accepted p i block path root given.answer given.checked given.status_is;
    }
    by_test false test given = absurd (fault-not_done fault.Root given.status_is)

-- the file digest that is answered is the hash of the descriptor
digest-answered : (s : TreeSettingsFields) (size : ℕ) (root : List ℕ) (room : ℕ) (digest : List ℕ)
    → file_digest_in (Ok s) size root room ≡ Ok digest
    → digest_of_file (record { tree = s; size = size; root = root }) ≡ digest
digest-answered s size root room digest e =
    by_tests (length root == digest_len s) (room == digest_len s) e
  where
    by_tests : (long fits : Bool)
        → (if not long then Err fault.Root
        else (if not fits then Err fault.Length
        else Ok (digest_of_file (record { tree = s; size = size; root = root }))))
        ≡ Ok digest
        → digest_of_file (record { tree = s; size = size; root = root }) ≡ digest
    by_tests true true is = cc
    by_tests true false is = absurd cc
    by_tests false fits is = absurd cc

-- and so is that of a file that was fed
digest-fed : (s : TreeSettingsFields) (bytes digest : List ℕ) → digest_of_fed (Ok s) bytes ≡ Ok digest
    → digest_of_file (descriptor_of_bytes s bytes) ≡ digest
digest-fed s bytes digest e = cc

-- descriptors with one hash are one, or a collision
one_or_two : (v w : DescriptorFields) → IsValidDescriptor v → IsValidDescriptor w → digest_of_file v ≡ digest_of_file w
    → (v ≡ w) ⊎ Collide w.tree.algorithm (descriptor_bytes v) (descriptor_bytes w)
one_or_two v w of_v of_w digests =
    let algorithms : v.tree.algorithm ≡ w.tree.algorithm =
    algorithm_by_length v.tree.algorithm w.tree.algorithm (of_v.tree.known of_v.described.0)
    (of_w.tree.known of_w.described.0)
    (sym (length-hash_of v.tree.algorithm (descriptor_bytes v)) ∙ ap length digests
    ∙ length-hash_of w.tree.algorithm (descriptor_bytes w)) in
    elim (same_or_two (descriptor_bytes v) (descriptor_bytes w)) [
      | inl same ↦ inl (one-descriptor v w of_v of_w same)
      | inr apart ↦ inr (record {
        differ = apart;
        one_hash = ap (λ (a : Algorithm). hash_of a (descriptor_bytes v)) (sym algorithms) ∙ digests;
      })
    ]

-- the size of a file's plan is a number of 64 bits
size_few : (p : PlanFields) → IsPlan p → p.wanted < 2 ^ 64
size_few p h =
    let wide = some_data p.settings h.valid in
    let within : p.wanted ≤ p.blocks * p.settings.data_block =
    le-div_ceil p.wanted p.settings.data_block p.blocks wide (omega (arith, h.blocks_are)) in
    omega (arith, within, h.data_most)

-- a block of a file
block-of_file : (s : TreeSettingsFields) (bytes : List ℕ) (i : ℕ) → i < block_count s (length bytes)
    → get_or (data_blocks (plan_of_file s (length bytes)) bytes) i [] ≡ block_at s.data_block bytes i
unfolding cut
block-of_file s bytes i below =
    get_or-map-range_with_len (block_at s.data_block (take (length bytes) bytes)) 0 (block_count s (length bytes)) i i
    [] below (omega arith)
    ∙ ap (λ (all : List ℕ). block_at s.data_block all i) (take_all (length bytes) bytes (omega arith))

-- with the file's parameters and root hash, a block that is accepted is the file's, or there is a collision
block-trusted : (tree : TreeSettingsFields) (bytes : List ℕ) (b : FileBlock) (p : PlanFields)
    → fsverity_tree_of b.params ≡ Ok tree → b.params.size ≡ length bytes
    → b.root ≡ root_of_file tree (length bytes) bytes → p ≡ plan_of_file tree (length bytes) → IsPlan p
    → IsAccepted p b.index b.block b.path b.root
    → IsBlockOf tree bytes b ⊎ ShowsCollision tree bytes b
block-trusted tree bytes b p settings size root_is is planned accepted =
    let q = plan_of_file tree (length bytes) in
    let whole : IsPlan q = subst (λ (x : PlanFields). IsPlan x) is planned in
    let above : b.root ≡ root tree (data_blocks q bytes) =
    root_is ∙ sym (root_of_some tree (length bytes) bytes whole.some) in
    let here : IsAccepted q b.index b.block b.path (root tree (data_blocks q bytes)) =
    subst (λ (hash : List ℕ). IsAccepted q b.index b.block b.path hash) above
    (subst (λ (x : PlanFields). IsAccepted x b.index b.block b.path b.root) is accepted) in
    elim (accepted-true q bytes b.index b.block b.path whole here) [
      | inl same ↦ inl (record {
        settings = settings;
        size = size;
        root = root_is;
        index = here.index;
        block = same ∙ block-of_file tree bytes b.index here.index;
      })
      | inr collision ↦ inr (inr collision)
    ]

-- the descriptor of parameters and a root hash
descriptor-made : (made : Result TreeSettingsFields Fault) (s : TreeSettingsFields) (size : ℕ) (root : List ℕ)
    → made ≡ Ok s → length root ≡ digest_len s
    → descriptor_in made size root ≡ Ok (record { tree = s; size = size; root = root })
descriptor-made made s size root is long =
    let test : (length root == digest_len s) ≡ true = grind (arith, nat_tests, long) in
    rw (is, test) refl

pub digest-binds : (params : FsverityParams) (tree : TreeSettingsFields) (bytes digest : List ℕ) (b : FileBlock)
    → fsverity_tree_of params ≡ Ok tree → length bytes < 2 ^ 64
    → digest_of_fed (fsverity_tree_of params) bytes ≡ Ok digest → IsAcceptedFor b digest
    → IsBlockOf tree bytes b ⊎ ShowsCollision tree bytes b
digest-binds params tree bytes digest b made small trusted given =
    let by = block-accepted (fsverity_plan_of b.params) b.index b.block b.path b.root given.level given.level_after
    given.accepted in
    let p = by.plan in
    let plan = file_plan-made b.params p by.made_is in
    let of_file = file_settings-made params tree made in
    let of_params = file_settings-made b.params p.settings plan.tree in
    let v : DescriptorFields = record { tree = p.settings; size = b.params.size; root = b.root } in
    let w = descriptor_of_bytes tree bytes in
    let wanted : p.wanted ≡ b.params.size = ap (λ (q : PlanFields). q.wanted) plan.is in
    let file_digest : digest_of_file w ≡ digest = digest-fed tree bytes digest (rw made at trusted) in
    let answered : digest_of_file v ≡ digest =
    digest-answered p.settings b.params.size b.root given.room digest (rw plan.tree at given.digest_is) in
    let few = size_few p plan.planned in
    elim (one_or_two v w
    (record { tree = of_params.valid; described = (of_params.rule, by.long); size = omega (arith, few, wanted) })
    (record {
      tree = of_file.valid;
      described = (of_file.rule, length-root_of_file tree (length bytes) bytes);
      size = small;
    })
    (answered ∙ sym file_digest)) [
      | inl same ↦
          let trees : p.settings ≡ tree = ap (λ (d : DescriptorFields). d.tree) same in
          let sizes : b.params.size ≡ length bytes = ap (λ (d : DescriptorFields). d.size) same in
          block-trusted tree bytes b p (plan.tree ∙ ap (λ (s : TreeSettingsFields). Ok s) trees) sizes
          (ap (λ (d : DescriptorFields). d.root) same)
          (plan.is ∙ ap (λ (s : TreeSettingsFields). plan_of_file s b.params.size) trees
          ∙ ap (plan_of_file tree) sizes)
          plan.planned by.accepted
      | inr collide ↦ inr (inl (record {
        descriptor = v;
        made = descriptor-made (fsverity_tree_of b.params) p.settings b.params.size b.root plan.tree by.long;
        collide = collide;
      }))
    ]
