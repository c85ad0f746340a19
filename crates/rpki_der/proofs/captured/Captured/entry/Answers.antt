use Rattle.std.proofs.Common.{◌<◌, ◌∙◌, length, ap, subst}
use Rattle.std.specs.Prelude.{List, slice_get}
use Rattle.rpki_der.specs.Index.{Entry}
use Rattle.rpki_der.proofs.MemberLaws.{stands-of}
use Rattle.rpki_der.proofs.captured.Captured.entry.Goals as goal

pub entry_of-requires : goal.entry_of-requires
entry_of-requires c =
    subst (λ (x : List Entry). c.args.number < length x) (c.headers.ensures.only c.requires.index c.requires.is)
    c.requires.within

pub returns-clause-is : goal.returns-clause-is
returns-clause-is c =
    λ index i. ap (λ (x : List Entry). slice_get x c.args.number) (c.headers.ensures.only index i) ∙ c.entry_of.ensures

pub returns-clause-stands : goal.returns-clause-stands
returns-clause-stands c =
    stands-of _ c.headers.result.now c.args.number c.entry_of.result c.headers.ensures.places c.entry_of.ensures
