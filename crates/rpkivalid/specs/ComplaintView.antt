-- What clauses see of what is wrong with words.
use Rattle.std.specs.Prelude.{ℕ, List, String, map, string_bytes}
use Rattle.rpkivalid.specs.declared.complaint.Wrong.{Wrong}
use Rattle.rpkivalid.specs.Complaint.{said, complaint_text}

-- what is said of it
abbrev pub text_of : Wrong → List ℕ
text_of w = said w.front.now w.word.now w.behind.now

-- the octets of the words
abbrev pub texts_of : {Z : Type 0} → List (String Z) → List (List ℕ)
texts_of words = map string_bytes words

-- what is said of the words
abbrev pub complaint_of : {Z : Type 0} → List (String Z) → List ℕ
complaint_of words = complaint_text (texts_of words)
