use Rattle.std.proofs.Common.{◌≡◌, ◌∙◌, bytes_eq, rules, string_bytes, sym}
use Rattle.std.proofs.lemmas.Bool.{false≢true}
use Rattle.std.proofs.lemmas.Slice.Eq.{bytes_eq-Decides}
use Rattle.rpki_payloads.proofs.ConflictLaws.{no-overlap}
use Rattle.rpki_payloads.proofs.conflict.overlap_of.Goals as goal

pub returns-in-None : goal.returns-in-None
returns-in-None c =
    let one = c.args.one.now in
    let other = c.args.other.now in
    let named : c.eq.result ≡ bytes_eq (string_bytes one.name) (string_bytes other.name) = search rules in
    no-overlap one other
    (λ e. false≢true (sym c.if-eq.false ∙ named
    ∙ (bytes_eq-Decides (string_bytes one.name) (string_bytes other.name)).1 e))
    (rw c.in_default.is at c.in_ok-prefix.ensures) (rw c.in-None.is at c.in_ok-asn.ensures)
