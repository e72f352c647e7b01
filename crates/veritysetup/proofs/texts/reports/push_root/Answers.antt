use Rattle.{std.proofs.{Common.{◌∙◌, ap}, lemmas.Result.on_ok_weaker}, hex.specs.Hex.encode_lower}
use Rattle.veritysetup.proofs.texts.reports.push_root.Goals as goal

pub returns-in_ok-digits-in-Some : goal.returns-in_ok-digits-in-Some
returns-in_ok-digits-in-Some c =
    let digits = c.in_ok-digits-in-Some.ensures ∙ ap encode_lower c.as_bytes.ensures.bytes in
    on_ok_weaker c.write.result (λ written. rw (c.in-Some.is, ← digits) written) c.write.ensures.bytes
