use Rattle.rpki_text.proofs.CutLaws.{IsUtf8-from-uri-bytes}
use Rattle.rpki_text.proofs.uri.characters.uri_text.Goals as goal

pub from_utf8_unchecked-requires : goal.from_utf8_unchecked-requires
from_utf8_unchecked-requires c = IsUtf8-from-uri-bytes c.args.bytes.now c.requires
