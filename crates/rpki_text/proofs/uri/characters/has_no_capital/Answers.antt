use Rattle.rpki_text.proofs.CaseLaws.{without-capital}
use Rattle.rpki_text.proofs.uri.characters.has_no_capital.Goals as goal

pub returns : goal.returns
returns c = without-capital c.args.text.now c.has_capital.result c.has_capital.ensures
