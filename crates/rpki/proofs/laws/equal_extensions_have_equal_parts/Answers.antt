use Rattle.rpki.proofs.ExtensionLaws.{one-extension}
use Rattle.rpki.proofs.laws.equal_extensions_have_equal_parts.Goals as goal

pub returns-clause-one_reading : goal.returns-clause-one_reading
returns-clause-one_reading c = one-extension
