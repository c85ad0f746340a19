-- The sections of the lines of a locator.
use Rattle.std.specs.Prelude.{◌≡◌, ℕ, List, map, take, drop}
use Rattle.std.specs.List.{prefix_len}
use Rattle.rpki_locator.specs.declared.lines.Sections.{Sections}
use Rattle.rpki_locator.specs.Locator.{is_comment, is_filled}

-- how many comments, the lines after them that aren't empty, and those that follow
pub record AreSections (lines : List (List ℕ)) (x : Sections) : Type 0 where
  pub comments : x.comments ≡ prefix_len is_comment lines
  pub uris : map (λ line. line.now) x.uris.now
      ≡ take (prefix_len is_filled (drop x.comments lines)) (drop x.comments lines)
  pub rest : map (λ line. line.now) x.rest.now
      ≡ drop (prefix_len is_filled (drop x.comments lines)) (drop x.comments lines)
