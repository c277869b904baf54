-- The live links with their rows, as finite maps.
use Rattle.std.specs.Prelude.{ℕ, List, option_map, refl}
use Rattle.std.specs.Coded.{Coded, code_by, coded×, coded_ℕ, coded_list}
use Rattle.std.specs.declared.cmp.Ordering.{Ordering}
use Rattle.std.specs.Ordering.{nat_cmp, ordering_then}
use Rattle.std.specs.FinMap as map
use Rattle.addr4.specs.Prefixes.{prefix_cmp, address_prefix_code}
use Rattle.journal_text.specs.Links.{kind_of, owner_of, number_of}
use Rattle.journal_text.specs.Walk.{Links}
use Rattle.journal_text.specs.declared.link.Link.{Link}
use Rattle.journal_check.specs.declared.links.Key.{Key}

-- the texts at the prefixes of a link
abbrev pub RowMap : Type 0
RowMap = map.FinMap prefix_cmp (List ℕ)

abbrev pub row_map_code : Coded RowMap
row_map_code = map.code address_prefix_code (coded_list coded_ℕ)

-- a link as a key
abbrev pub key_of : Link → Key
key_of link = record { kind = kind_of link; owner = owner_of link; number = number_of link }

-- by kind, then owner, then number
abbrev pub key_cmp : Key → Key → Ordering
key_cmp a b = ordering_then (nat_cmp a.kind b.kind) (ordering_then (nat_cmp a.owner b.owner) (nat_cmp a.number b.number))

abbrev pub key_code : Coded Key
key_code = code_by (ℕ × (ℕ × ℕ)) (coded× coded_ℕ (coded× coded_ℕ coded_ℕ)) (λ k. (k.kind, (k.owner, k.number))) (λ p. record { kind = p.0; owner = p.1.0; number = p.1.1 }) (λ _. refl)

-- the rows of each live link
abbrev pub LinkMap : Type 0
LinkMap = map.FinMap key_cmp RowMap

abbrev pub link_map_code : Coded LinkMap
link_map_code = map.code key_code row_map_code

-- the links of the walk that these maps are
abbrev pub links_of : LinkMap → Links (List ℕ)
links_of maps link = option_map map.get (map.get maps (key_of link))
