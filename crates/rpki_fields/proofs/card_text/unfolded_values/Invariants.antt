use Rattle.std.proofs.Common.{◌≡◌, map, take}
use Rattle.rpki_records.specs.Folds.{unfolded}
use Rattle.rpki_fields.proofs.card_text.unfolded_values.Given as goal

abbrev pub invariant-values : goal.invariant-values
invariant-values l =
    map (λ text. text.items) l.texts.items
    ≡ map unfolded (map (λ value. value.now) (take l.value-index l.values))
