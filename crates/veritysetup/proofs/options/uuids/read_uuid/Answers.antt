use Rattle.std.{proofs.Common.{refl, ◌≡◌, ◌∙◌, ◌↔◌, Option, Some, None, Result, Ok, Err, IfOk, IsOk}, specs.Result.result_ok}
use Rattle.veritysetup.proofs.options.uuids.read_uuid.Goals as goal

ok_is : {X E : Type 0} (r : Result X E) (o : Option X) → IsOk r ↔ ((u : X) × (o ≡ Some u)) → IfOk r (λ u. Some u ≡ o) → result_ok r ≡ o
ok_is (Ok u) o a b = b
ok_is (Err e) None a b = refl
ok_is (Err e) (Some u) a b = cc (a.1 (u, refl))

pub returns : goal.returns
returns c = c.ok.ensures.value ∙ ok_is c.parse_str.result _ c.parse_str.ensures.ok c.parse_str.ensures.bytes
