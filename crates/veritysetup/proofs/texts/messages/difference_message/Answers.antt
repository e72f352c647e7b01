use Rattle.std.proofs.{Common.{◌∙◌, append_assoc}, lemmas.Result.IfOk-weaker}
use Rattle.veritysetup.proofs.texts.messages.difference_message.Goals as goal

pub returns-in-Child : goal.returns-in-Child
returns-in-Child c = rw c.in-Child.is (IfOk-weaker c.format-in-Child.result _ _ (λ s h. h ∙ simp append_assoc) c.format-in-Child.ensures.ok)
