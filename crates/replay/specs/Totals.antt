-- What `gen` writes behind its run: how many turns its events took, and how many rows some links then have.
use Rattle.std.specs.Prelude.{◌≡◌, ℕ, ◌^◌, ◌<◌, Bool, true, false, List, [], ◌∷◌, ◌++◌, length, Option, Some, None, codes, ◌⊎◌}
use Rattle.std.specs.Fmt.{decimal}
use Rattle.addr4.specs.Prefixes.{AddressPrefix}
use Rattle.link_change.specs.Rows.{Rows}
use Rattle.journal_text.specs.declared.link.Link.{Link}
use Rattle.journal_text.specs.declared.link.Link.TheVariants.{In, Best, Fib, Adv}
use Rattle.journal_text.specs.Lines.{Value}
use Rattle.journal_text.specs.Texts.{link_text, words_line}
use Rattle.event_text.specs.declared.declared.DeclaredPeer.{DeclaredPeer}
use Rattle.event_text.specs.Declarations.{peer_at}
use Rattle.router_moments.specs.Blocks.{AreRows}
use Rattle.router_moments.specs.Moments.{Moment, router_links}
use Rattle.router.specs.Networks.{Networks}
use Rattle.check_run.specs.Lines.{lines_of}
use Rattle.replay.specs.Output.{IsOutput, IsOutputTo, IsRefusedOutput, IsOutputOfFront, IsFrontOfOutput}

-- `total turns T`
abbrev pub turns_line : ℕ → List ℕ
turns_line turns = words_line (codes "total" ∷ codes "turns" ∷ decimal turns ∷ [])

-- `total LINK ROWS`
abbrev pub rows_line : Link → ℕ → List ℕ
rows_line link rows = words_line (codes "total" ∷ link_text false link ∷ decimal rows ∷ [])

-- Something was appended, and this holds of it.
abbrev pub Adds : (List ℕ → Type 0) → List ℕ → List ℕ → Type 0
Adds P before now = (more : List ℕ) × P more × (now ≡ before ++ more)

-- the line of a link, where it is live
abbrev pub IsTotal : Link → Option (Rows Value) → List ℕ → Type 0
IsTotal link None bytes = bytes ≡ []
IsTotal link (Some rows) bytes = (listed : List (AddressPrefix × Value)) × AreRows rows listed × (length listed < 2 ^ 128) × (bytes ≡ rows_line link (length listed))

-- the lines of links, those of them that are live
abbrev pub AreTotalsOf : Moment → List Link → List ℕ → Type 0
AreTotalsOf m [] bytes = bytes ≡ []
AreTotalsOf m (link ∷ links) bytes = (first rest : List ℕ) × IsTotal link (router_links m link) first × AreTotalsOf m links rest × (bytes ≡ first ++ rest)

-- `adv.K.S` of a peer's last session, which is live where the peer is up
abbrev pub sent_link : ℕ → Option DeclaredPeer → List Link
sent_link k None = []
sent_link k (Some p) = Adv k p.session ∷ []

-- of the four peers
abbrev pub sent_links : List DeclaredPeer → List Link
sent_links peers = sent_link 1 (peer_at 1 peers) ++ (sent_link 2 (peer_at 2 peers) ++ (sent_link 3 (peer_at 3 peers) ++ sent_link 4 (peer_at 4 peers)))

-- the links whose rows are counted: what the four peers announce, the best routes, the forwarding table, and what each peer is sent
abbrev pub total_links : List DeclaredPeer → List Link
total_links peers = In 1 ∷ In 2 ∷ In 3 ∷ In 4 ∷ Best ∷ Fib ∷ sent_links peers

-- all totals of a moment to which so many turns led
abbrev pub AreTotals : Moment → ℕ → List ℕ → Type 0
AreTotals m turns bytes = (rest : List ℕ) × AreTotalsOf m (total_links m.declared.peers) rest × (turns < 2 ^ 128) × (bytes ≡ turns_line turns ++ rest)

-- The output for generated events, whose totals are those of IPv4's network: an allowed one for all their lines, and the totals.
pub record IsTotalledOutput (quiet : Bool) (text bytes : List ℕ) : Type 0 where
  pub end : Networks
  pub turns : ℕ
  pub earlier : List ℕ
  pub output : IsOutputTo quiet (lines_of text) earlier end turns
  pub totals : List ℕ
  pub counted : AreTotals end.first turns totals
  pub written : bytes ≡ earlier ++ totals

-- A front of what may be written for generated events.
pub record IsFrontOfTotalled (quiet : Bool) (text bytes : List ℕ) : Type 0 where
  pub whole : List ℕ
  pub rest : List ℕ
  pub front : whole ≡ bytes ++ rest
  pub allowed : IsOutputOfFront quiet text whole ⊎ (IsRefusedOutput quiet text whole ⊎ IsTotalledOutput quiet text whole)

-- The output for all lines of a text, with the totals where they are asked for.
abbrev pub IsWholeOutput : Bool → Bool → List ℕ → List ℕ → Type 0
IsWholeOutput false quiet text bytes = IsOutput quiet (lines_of text) bytes
IsWholeOutput true quiet text bytes = IsTotalledOutput quiet text bytes

-- A front of what may be written then.
abbrev pub IsFrontOfWhole : Bool → Bool → List ℕ → List ℕ → Type 0
IsFrontOfWhole false quiet text bytes = IsFrontOfOutput quiet text bytes
IsFrontOfWhole true quiet text bytes = IsFrontOfTotalled quiet text bytes
