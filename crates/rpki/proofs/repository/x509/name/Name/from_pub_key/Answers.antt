use Rattle.rpki.proofs.repository.x509.name.Name.from_pub_key.Goals as goal

pub from_values-requires : goal.from_values-requires
from_values-requires g c = (
  c.encode_subject_name-written.ensures.short,
  rw c.encode_subject_name-written.ensures.octets
      c.encode_subject_name-written.ensures.size,
)
