-- Text that is kept with octets among its characters, whose hex digits aren't made yet.
use Rattle.std.specs.Prelude.{◌≡◌, ◌≤◌, ◌+◌, ℕ, List, [], ◌∷◌, ◌++◌, length, take, drop, codes}
use Rattle.std.specs.Fmt.{decimal}
use Rattle.hex.specs.Hex.{encode_lower}
use Rattle.journal_text.specs.declared.front.Front.{Front}
use Rattle.journal_text.specs.declared.front.Front.TheVariants.{Characters, Out}
use Rattle.journal_text.specs.declared.kept.Span.{Span}
use Rattle.journal_text.specs.declared.kept.Text.{Text}
use Rattle.journal_text.specs.declared.kept.TheConstants.{MARKER}

-- the end of a line, and `out K ` of a peer
abbrev pub following : ℕ → List ℕ
following peer = 10 ∷ codes "out " ++ decimal peer ++ 32 ∷ []

-- how many characters of the content a front takes
abbrev pub taken : Front → ℕ
taken (Characters count) = count
taken (Out peer) = 0

-- the text of a front of which nothing is kept
abbrev pub unkept : Front → List ℕ
unkept (Characters count) = []
unkept (Out peer) = following peer

-- the text of a content: of each span its characters and the text of which nothing is kept, and behind them the hex digits of the
-- marker and of its octets; behind the last span characters alone
abbrev pub kept_text : List Span → List ℕ → List ℕ
kept_text [] content = content
kept_text (s ∷ spans) content =
    let behind = drop (taken s.front) content in
    take (taken s.front) content ++ (unkept s.front ++ (encode_lower MARKER.now ++ (encode_lower (take s.count behind) ++ kept_text spans (drop s.count behind))))

-- how much of a content spans take
abbrev pub covered : List Span → ℕ
covered [] = 0
covered (s ∷ spans) = taken s.front + s.count + covered spans

-- the characters that a text stands for
abbrev pub chars : Text → List ℕ
chars text = kept_text text.spans.items text.content.items

-- a text's spans take as much of its content as it says
pub record IsWhole (text : Text) : Type 0 where
  pub ends : covered text.spans.items ≡ text.end
  pub within : text.end ≤ length text.content.items

-- these characters were appended to a text
pub record IsAppended (more : List ℕ) (old new : Text) : Type 0 where
  pub whole : IsWhole new
  pub chars : chars new ≡ chars old ++ more
