-- What equal maps tell of two links.
use Rattle.std.proofs.Common.{◌≡◌, ℕ, ◌↔◌, List, Option, Some, option_map, sym, ap, ◌∙◌}
use Rattle.std.specs.FinMap as map
use Rattle.std.specs.FinMap.{same_map}
use Rattle.addr4.proofs.PrefixOrder.{prefixes_total, exact_prefixes}
use Rattle.link_change.specs.Rows.{Rows}
use Rattle.journal_text.specs.Walk.{HaveSameRows}
use Rattle.journal_text.specs.declared.link.Link.{Link}
use Rattle.journal_check.specs.Maps.{key_of, LinkMap, RowMap, links_of}

same_some : {A : Type 0} (x y : A) → Some x ≡ Some y → x ≡ y
same_some x y e = cc

live_as : (m : LinkMap) (link : Link) (found : Option RowMap) → found ≡ map.get m (key_of link) → links_of m link ≡ option_map map.get found
live_as m link found is = ap (option_map map.get) (sym is)

pub same_on : (m : LinkMap) (upper lower : Link) (a b : RowMap) → Some a ≡ map.get m (key_of upper) → Some b ≡ map.get m (key_of lower) → (a ≡ b) ↔ HaveSameRows (links_of m) upper lower
same_on m upper lower a b here there = (
  λ e. (map.get a, live_as m upper (Some a) here, live_as m lower (Some b) there ∙ ap (λ r. Some (map.get r)) (sym e)),
  λ h.
      let first = same_some (map.get a) h.0 (sym (live_as m upper (Some a) here) ∙ h.1) in
      let second = same_some (map.get b) h.0 (sym (live_as m lower (Some b) there) ∙ h.2) in
      same_map prefixes_total exact_prefixes a b (λ q. ap (λ (r : Rows (List ℕ)). r q) (first ∙ sym second)),
)
