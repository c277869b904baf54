-- What is left to be read of a text that is kept with octets in it.
use Rattle.std.specs.Prelude.{◌≡◌, ◌≤◌, ℕ, List, [], ◌++◌, length}
use Rattle.hex.specs.Hex.{encode_lower}
use Rattle.journal_text.specs.declared.kept.Span.{Span}
use Rattle.journal_text.specs.Kept.{covered, kept_text}

-- characters, the hex digits of a marker and of octets behind it, and the text that spans make of a content
unfoldable pub left : List ℕ → List ℕ → List ℕ → List Span → List ℕ → List ℕ
left characters marker octets spans content = characters ++ (encode_lower marker ++ (encode_lower octets ++ kept_text spans content))

-- the content has all that the spans say, and where there is neither a character nor an octet to be read next, nothing is left
pub record IsReading (characters marker octets : List ℕ) (spans : List Span) (content : List ℕ) : Type 0 where
  pub within : covered spans ≤ length content
  pub ends : characters ≡ [] → marker ≡ [] → octets ≡ [] → kept_text spans content ≡ []
