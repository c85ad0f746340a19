-- Where the parts of a text are in it.
use Rattle.std.specs.Prelude.{◌≡◌, ◌≤◌, ◌<◌, ℕ, List, length, slice_range, Some}
use Rattle.std.specs.declared.ops.Range.{Range}
use Rattle.rpki_text.specs.RsyncText.{uri_of, relative}

-- the part is the octets of the text in this range, which lies within the text
pub record IsPartAt (text : List ℕ) (range : Range ℕ) (part : List ℕ) : Type 0 where
  pub ordered : range.start ≤ range.end
  pub within : range.end ≤ length text
  pub octets : slice_range text range.start range.end ≡ part

-- the path from v to u is in the text of u, at this range, which is the end of the text
pub record IsRelativeAt (u v : List ℕ) (range : Range ℕ) : Type 0 where
  pub path : List ℕ
  pub leads : relative (uri_of u) (uri_of v) ≡ Some path
  pub stands : IsPartAt u range path
  pub last : range.end ≡ length u

-- in a text of this length a module name and a path may begin there: the first after `rsync://` and a slash, the second
-- after another slash
pub record AreStarts (size module_start path_start : ℕ) : Type 0 where
  pub authority : 8 < module_start
  pub module_name : module_start < path_start
  pub path : path_start ≤ size

-- in a text of this length a path may begin there, after `https://`
pub record IsHttpsStart (size path_start : ℕ) : Type 0 where
  pub authority : 8 ≤ path_start
  pub path : path_start ≤ size
