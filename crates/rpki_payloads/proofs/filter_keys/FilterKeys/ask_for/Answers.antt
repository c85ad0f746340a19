use Rattle.rpki_payloads.proofs.filter_keys.FilterKeys.ask_for.Goals as goal

pub returns : goal.returns
returns c = rw c.prefix.ensures at c.ask_either.ensures
