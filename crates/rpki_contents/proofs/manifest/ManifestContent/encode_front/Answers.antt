use Rattle.rpki_contents.proofs.ManifestWritingLaws.{number-few}
use Rattle.rpki_contents.proofs.manifest.ManifestContent.encode_front.Goals as goal

pub returns-clause-short : goal.returns-clause-short
returns-clause-short c = (
  c.encode.ensures.short.1 (number-few c.manifest_number-2.result),
  c.encode_generalized_time.ensures.fits.0,
  c.encode_generalized_time-2.ensures.fits.0,
)
