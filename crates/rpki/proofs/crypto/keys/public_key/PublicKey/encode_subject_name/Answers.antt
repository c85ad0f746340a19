use Rattle.rpki.proofs.SubjectLaws.{name-short, set-short}
use Rattle.rpki.proofs.crypto.keys.public_key.PublicKey.encode_subject_name.Goals as goal

pub returns-clause-short : goal.returns-clause-short
returns-clause-short g c =
    rw (c.new-2.ensures, c.new.ensures) (
      (
        c.common_name-name.ensures.short,
        rw c.common_name-name.ensures.octets
            (name-short c.key_identifier.result c.key_identifier.ensures.size),
      ),
      rw c.common_name-name.ensures.octets (set-short c.key_identifier.result c.key_identifier.ensures.size),
    )
