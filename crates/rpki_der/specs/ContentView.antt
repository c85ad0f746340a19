-- What a clause sees of the contents of a value.
use Rattle.std.specs.Prelude.{ℕ, Bool, true, false, List}
use Rattle.rpki_der.specs.declared.value.Content.{Content}
use Rattle.rpki_der.specs.declared.value.Content.TheVariants.{Primitive, Constructed}
use Rattle.rpki_der.specs.Cursor.{left}

abbrev pub is_constructed : Content → Bool
is_constructed (Primitive s) = false
is_constructed (Constructed c) = true

abbrev pub octets_of : Content → List ℕ
octets_of (Primitive s) = s.now
octets_of (Constructed c) = left c
