use Rattle.std.proofs.Common.{◌<◌, ◌^◌, ℕ, List, [], ◌∷◌, true, length, arith, subst, sym, ap, refl}
use Rattle.rpki_der.specs.Prelude.{sequence, tlv}
use Rattle.rpki_x509.proofs.WrittenLaws.{appended}
use Rattle.rpki_issue.proofs.ContentsLaws.{described, described-few, listed-spelled}
use Rattle.rpki_issue.proofs.contents.encode_access.Goals as goal

pub returns-clause-octets : goal.returns-clause-octets
returns-clause-octets c =
    rw c.new.ensures (ap (λ (w : List ℕ). tlv sequence true w) (appended c.encode_description.ensures.octets refl))

pub returns-clause-short : goal.returns-clause-short
returns-clause-short c =
    let one = described c.args.method.0.now c.args.uri.now c.requires.method.0 c.requires.method.1 c.requires.uri in
    let few = described-few ((c.args.method.0.now, c.args.uri.now) ∷ []) (one, tt) (omega arith) in
    rw c.new.ensures (
      (c.encode_description.ensures.short, (tt, tt)),
      subst (λ w. length w < 2 ^ 32) (sym (appended c.encode_description.ensures.octets refl)) (omega (arith, few)),
    )

pub returns-clause-read_back : goal.returns-clause-read_back
returns-clause-read_back c =
    listed-spelled _ []
    (described c.args.method.0.now c.args.uri.now c.requires.method.0 c.requires.method.1 c.requires.uri, tt)
