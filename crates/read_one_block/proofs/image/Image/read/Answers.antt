use Rattle.{std.proofs.Common.{ℕ, List, subst}, verity_pass.{specs.Paths.IsAccepted, proofs.AcceptedPaths.accepted-true}}
use Rattle.read_one_block.proofs.image.Image.read.Goals as goal

pub returns-in-Ok-clause-right : goal.returns-in-Ok-clause-right
returns-in-Ok-clause-right g c = λ bytes root_is.
    let p = c.args.self.now.plan in
    accepted-true p bytes c.args.i c.read_filled.new.buf c.read_path.new.path c.blocks-2.ensures.planned
    (subst (λ (r : List ℕ). IsAccepted p c.args.i c.read_filled.new.buf c.read_path.new.path r) root_is c.in-Ok.ensures)
