use Rattle.std.proofs.Common.{ap, ◌∙◌, Bool, ◌||◌}
use Rattle.park_format.specs.Inner.Set.{has}
use Rattle.park_format.proofs.Bits.{has-or, has_alone}
use Rattle.park_format.proofs.fed.with.Goals as goal

pub returns : goal.returns
returns c = λ j. has-or j c.args.fed _ ∙ ap (λ (b : Bool). has c.args.fed j || b) (has_alone c.args.to j c.requires)
