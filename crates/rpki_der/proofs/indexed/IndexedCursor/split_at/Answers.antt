use Rattle.std.proofs.Common.{arith}
use Rattle.rpki_der.specs.IndexedCursor.{indexed_left}
use Rattle.rpki_der.proofs.CursorLaws.{front-of-cut, back-of-cut, seam-within}
use Rattle.rpki_der.proofs.indexed.IndexedCursor.split_at.Goals as goal

pub overflow_add-seam : goal.overflow_add-seam
unfolding indexed_left
overflow_add-seam c =
    let self = c.args.self.now in
    let within = seam-within self.source.now self.start self.end c.args.at self.ordered self.inside c.requires in
    omega arith

pub invariant_of-front : goal.invariant_of-front
unfolding indexed_left
invariant_of-front c =
    let self = c.args.self.now in
    let within = seam-within self.source.now self.start self.end c.args.at self.ordered self.inside c.requires in
    let inside = self.inside in
    record { ordered = omega arith; inside = omega arith; stands = self.stands }

pub invariant_of-following : goal.invariant_of-following
unfolding indexed_left
invariant_of-following c =
    let self = c.args.self.now in
    let within = seam-within self.source.now self.start self.end c.args.at self.ordered self.inside c.requires in
    let inside = self.inside in
    record { ordered = omega arith; inside = omega arith; stands = self.stands }

pub returns-clause-front : goal.returns-clause-front
unfolding indexed_left
returns-clause-front c =
    let self = c.args.self.now in
    front-of-cut self.source.now self.start self.end c.args.at
    (seam-within self.source.now self.start self.end c.args.at self.ordered self.inside c.requires)

pub returns-clause-following : goal.returns-clause-following
unfolding indexed_left
returns-clause-following c =
    let self = c.args.self.now in
    back-of-cut self.source.now self.start self.end c.args.at
    (seam-within self.source.now self.start self.end c.args.at self.ordered self.inside c.requires)
