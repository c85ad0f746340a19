use Rattle.std.proofs.lemmas.Str.Pattern.{strip_prefix_char}
use Rattle.rpki_resources.proofs.AsReadLaws.{last-letter}
use Rattle.rpki_resources.proofs.as_read.after_letter.Goals as goal

pub returns-in-None : goal.returns-in-None
returns-in-None c =
    last-letter c.args.upper c.args.lower c.args.text.now c.strip_prefix-in-None.result
    (rw c.in-None.is at (strip_prefix_char c.args.upper c.args.text.now c.strip_prefix.result
    c.strip_prefix.ensures.cases c.requires.upper))
    (strip_prefix_char c.args.lower c.args.text.now c.strip_prefix-in-None.result c.strip_prefix-in-None.ensures.cases
    c.requires.lower)
