use Rattle.std.proofs.Common.{◌<◌, ◌^◌, length, ap, sym, subst, ◌∙◌, refl}
use Rattle.rpki_time.specs.Time.{IsTimeYear}
use Rattle.rpki.specs.Prelude.{SpellsNameOctets}
use Rattle.rpki_x509.specs.TagLaws.{number-few}
use Rattle.rpki_x509.proofs.WrittenLaws.{appended}
use Rattle.rpki_issue.specs.Tbs.{issued_of}
use Rattle.rpki_issue.proofs.TbsLaws.{key-short, list-short, each-short, tbs-spelled}
use Rattle.rpki_issue.proofs.tbs.TbsCertBuilder.encode.Goals as goal

pub returns-clause-short : goal.returns-clause-short
returns-clause-short g c = λ each short.
    let x = issued_of c.args.self.now in
    let version = c.encode_version-version.ensures in
    let serial = c.encode-serial.ensures in
    let algorithm = c.x509_encode-algorithm.ensures in
    let issuer = c.encode_ref-issuer.ensures in
    let period = c.encode-period.ensures in
    let subject = c.encode_ref-subject.ensures in
    let key = c.encode_ref-key.ensures in
    rw (c.new-2.ensures, c.new-listed.ensures, c.new.ensures) (
      (
        version.short,
        (
          serial.short.1 (number-few x.serial),
          (
            algorithm.short tt,
            (
              (1, issuer.one),
              (
                period.fits.0,
                (
                  (1, subject.one),
                  (
                    key.short.1 (key-short x _ short),
                    ((each, each-short x _ short), list-short x _ short),
                  ),
                ),
              ),
            ),
          ),
        ),
      ),
      subst (λ w. length w < 2 ^ 32)
          (sym (appended version.octets (appended serial.encoded (appended algorithm.octets (appended issuer.octets
          (appended period.encoded (appended subject.octets (appended key.octets refl)))))))) short,
    )

pub returns-clause-read_back : goal.returns-clause-read_back
returns-clause-read_back g c = λ xs all short.
    let x = issued_of c.args.self.now in
    let issuer = c.encode_ref-issuer.ensures in
    let subject = c.encode_ref-subject.ensures in
    let begins = subst IsTimeYear (c.year.ensures.value ∙ ap (λ t. t.date.year) c.not_before.ensures)
    c.year.ensures.bound in
    let ends = subst IsTimeYear (c.year-2.ensures.value ∙ ap (λ t. t.date.year) c.not_after.ensures)
    c.year-2.ensures.bound in
    tbs-spelled x _ short xs all c.into_array.ensures.below
    (subst (λ w. SpellsNameOctets x.issuer w) issuer.octets issuer.read_back)
    (record { not_before = begins; not_after = ends })
    (subst (λ w. SpellsNameOctets x.subject w) subject.octets subject.read_back)
    (c.encode_ref-key.ensures.read_back (key-short x _ short))
