-- Authorities that were looked at.
use Rattle.std.specs.Prelude.{◌≡◌, Bool, true, false}
use Rattle.rpki_valid.specs.Verified.{Holder}
use Rattle.rpki_validation.specs.declared.looked.Looked.{Looked}
use Rattle.rpki_validation.specs.Met.{InsertsMarkOf, InsertsPlaceOf}

-- The place is added, where it is new; and of an authority that is named its mark. The answer is whether it is still to
-- be looked at: of one that is named, whether the mark is new; of another, whether the place is.
abbrev pub InsertsLooked : Bool → Holder → Looked → Looked → Bool → Type 0
InsertsLooked true x old new is_new =
    InsertsMarkOf old.named new.named x is_new
    × ((is_place : Bool) × InsertsPlaceOf old.places new.places x is_place)
InsertsLooked false x old new is_new = (new.named ≡ old.named) × InsertsPlaceOf old.places new.places x is_new
