-- Whether two extensions are there, as a function asks.
use Rattle.std.proofs.Common.{Bool, true, false, ◌≡◌, refl}
use Rattle.std.specs.Prelude.{not, ◌&&◌}

-- the first isn't, so the second says
pub second-says : (a b x y : Bool) → a ≡ x → b ≡ y → a ≡ false → not b ≡ (not x && not y)
second-says a b x y p q t = rw (← p) (rw (← q) (rw t refl))

-- the first is
pub first-says : (a x y : Bool) → a ≡ x → a ≡ true → not a ≡ (not x && not y)
first-says a x y p f = rw (← p) (rw f refl)
