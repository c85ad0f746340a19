use Rattle.std.proofs.Common.{◌≡◌, length, ap, ◌∙◌, arith}
use Rattle.rpki_text.proofs.CutLaws.{cut-facts}
use Rattle.rpki_text.proofs.ModuleLaws.{eq_bytes-at}
use Rattle.rpki_text.proofs.EqBytesLaws.{eq_bytes-uri}
use Rattle.rpki_text.proofs.uri.rsync.Rsync.eq_bytes.Goals as goal

pub same_but_case-requires : goal.same_but_case-requires
same_but_case-requires c =
    let facts = cut-facts _ _ _ c.self.invariant in
    let size : length c.as_slice.result.now ≡ length c.self.inside.bytes = ap length c.as_slice.ensures in
    omega (arith, facts.fits, facts.module_name)

pub returns-clause-text : goal.returns-clause-text
returns-clause-text c = rw (c.same_but_case.ensures, c.as_slice.ensures, ← c.self.view_is)
    (eq_bytes-at c.self.inside.bytes c.args.other.now _ _ c.self.invariant)

pub returns-clause-uri : goal.returns-clause-uri
returns-clause-uri c h =
    rw (c.same_but_case.ensures, c.as_slice.ensures, ← c.self.view_is)
    (eq_bytes-at c.self.inside.bytes c.args.other.now _ _ c.self.invariant ∙ eq_bytes-uri c.self.inside.bytes
    c.args.other.now _ _ c.self.invariant h)
