use Rattle.std.proofs.Common.{◌≡◌, drop}
use Rattle.rpki_records.specs.Card.{is_word}
use Rattle.rpki_records.proofs.card_octets.is_word.Given as goal

-- the same so far
abbrev pub invariant-word : goal.invariant-word
invariant-word l = is_word l.octets l.word ≡ is_word l.rest (drop l.letter-index l.word)
