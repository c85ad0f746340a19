use Rattle.std.proofs.Common.{lit<}
use Rattle.rpki.proofs.SubjectLaws.{digits-short, attribute-short}
use Rattle.rpki.proofs.StrictSubjectLaws.{hex-printable, subject-fits, subject-strict}
use Rattle.rpki.proofs.repository.x509.subject_name.common_name.Goals as goal

pub returns-clause-short : goal.returns-clause-short
returns-clause-short c =
    rw (c.new-2.ensures, c.encode-attribute.ensures.encoded, c.encode-name.ensures.encoded) (
      (
        c.encode-attribute.ensures.short.1 (lit< tt),
        c.encode-name.ensures.short.1
            (rw c.new.ensures.digits (digits-short c.args.identifier c.requires)),
      ),
      rw c.new.ensures.digits (attribute-short c.args.identifier c.requires),
    )

pub returns-clause-strict : goal.returns-clause-strict
returns-clause-strict c =
    subject-strict c.args.identifier c.requires (hex-printable c.args.identifier c.new.ensures.octets)

pub returns-clause-size : goal.returns-clause-size
returns-clause-size c = subject-fits c.args.identifier c.requires
