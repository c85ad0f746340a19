use Rattle.std.proofs.Common.{arith, ◌∙◌}
use Rattle.rpki_der.specs.Cursor.{left}
use Rattle.rpki_der.proofs.KeepLaws.{all-stands, stands-at, no-longer}
use Rattle.rpki_der.proofs.cursor.Constructed.keep_part.Goals as goal

pub overflow_sub-end : goal.overflow_sub-end
unfolding left
overflow_sub-end g c =
    let within = no-longer c.args.self.now.rest.now c.args.part.now c.args.after.now.rest.now c.requires.stands in
    omega (arith, within)

pub returns : goal.returns
unfolding left
returns g c =
    let s = c.args.self.now.rest.now in
    c.in_ok-kept.ensures ∙ all-stands s _ c.args.part.now
    (stands-at s c.args.part.now c.args.after.now.rest.now c.requires.stands)
