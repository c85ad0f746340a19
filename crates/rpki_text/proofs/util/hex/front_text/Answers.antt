use Rattle.std.proofs.Common.{◌≡◌, sym, ◌∙◌, List, ℕ, IsUtf8, subst}
use Rattle.rpki_text.specs.HexText.{hex_text}
use Rattle.rpki_text.proofs.HexLaws.{IsUtf8-hex_text}
use Rattle.rpki_text.proofs.util.hex.front_text.Goals as goal

pub from_utf8_unchecked-requires : goal.from_utf8_unchecked-requires
from_utf8_unchecked-requires c =
    let front : c.split_at.result.0.now ≡ hex_text c.args.src.now = c.split_at.ensures.front ∙ c.requires.1 in
    subst (λ (t : List ℕ). IsUtf8 t) (sym front) (IsUtf8-hex_text c.args.src.now c.type_inv.src)
