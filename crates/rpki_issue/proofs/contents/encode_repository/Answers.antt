use Rattle.std.proofs.Common.{◌<◌, ◌^◌, ℕ, List, ◌∷◌, true, length, arith, subst, sym, ap}
use Rattle.rpki_der.specs.Prelude.{sequence, tlv}
use Rattle.rpki_x509.proofs.WrittenLaws.{appended}
use Rattle.rpki_cert.specs.Access.{ca_repository, rpki_manifest}
use Rattle.rpki_issue.specs.Contents.{repository_access, notification_access, notification_of}
use Rattle.rpki_issue.proofs.ContentsLaws.{described-few, listed-spelled, repository-described, repository-three}
use Rattle.rpki_issue.proofs.contents.encode_repository.Goals as goal

pub returns-clause-octets : goal.returns-clause-octets
returns-clause-octets c =
    rw c.new.ensures (ap (λ (w : List ℕ). tlv sequence true w)
    (appended c.encode_description-base.ensures.octets
    (appended c.encode_description-manifest.ensures.octets c.encode_changes-changes.ensures.octets)))

pub returns-clause-short : goal.returns-clause-short
returns-clause-short c =
    let x = c.args.repository.now in
    let few = described-few (repository_access x) (repository-described x c.requires) (repository-three x) in
    rw c.new.ensures (
      (
        c.encode_description-base.ensures.short,
        (c.encode_description-manifest.ensures.short, c.encode_changes-changes.ensures.short),
      ),
      subst (λ w. length w < 2 ^ 32)
          (sym (appended c.encode_description-base.ensures.octets
          (appended c.encode_description-manifest.ensures.octets c.encode_changes-changes.ensures.octets)))
          (omega (arith, few)),
    )

pub returns-clause-read_back : goal.returns-clause-read_back
returns-clause-read_back c =
    let x = c.args.repository.now in
    listed-spelled (ca_repository, x.base.now)
    ((rpki_manifest, x.manifest.now) ∷ notification_access (notification_of x)) (repository-described x c.requires)
