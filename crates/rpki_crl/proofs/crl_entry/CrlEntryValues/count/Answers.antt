use Rattle.rpki_crl.specs.Crl.{entry_of}
use Rattle.rpki_crl.specs.EncodedLaws.{entry_value}
use Rattle.rpki_crl.proofs.crl_entry.CrlEntryValues.count.Goals as goal

pub returns : goal.returns
returns c = entry_value (entry_of c.args.self.now)
