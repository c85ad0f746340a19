use Rattle.std.proofs.Common.{refl}
use Rattle.rpki_payloads.proofs.MemberLaws.{each-map}
use Rattle.rpkivalid.specs.Denying.{OfConflict}
use Rattle.rpkivalid.specs.Excepted.{IsFileIn}
use Rattle.rpkivalid.proofs.excepted.exceptions_in.Goals as goal

pub returns-in-None-clause-ok : goal.returns-in-None-clause-ok
returns-in-None-clause-ok g c = (
  each-map (λ file. file.now) (IsFileIn (g.S.Sources.holds c.args.sources.now)) c.args.files.now
      c.in_ok-all.all.items c.in_ok-all.ensures.ok,
  rw (c.in-None.is, c.as_slice.ensures.value) at c.in_ok-conflict.ensures,
)

pub returns-in-Some-clause-err : goal.returns-in-Some-clause-err
returns-in-Some-clause-err g c =
    OfConflict c.in-Some.conflict c.in_ok-all.all.items refl
    (each-map (λ file. file.now) (IsFileIn (g.S.Sources.holds c.args.sources.now)) c.args.files.now
    c.in_ok-all.all.items c.in_ok-all.ensures.ok)
    (rw (c.in-Some.is, c.as_slice.ensures.value) at c.in_ok-conflict.ensures)
