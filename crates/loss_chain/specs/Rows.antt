-- Which rows a chain has, live or lost.
use Rattle.std.specs.Prelude.{◌≡◌, ◌⊎◌, List, [], ◌∷◌, Some}
use Rattle.std.specs.FinMap as map
use Rattle.addr4.specs.Prefixes.{AddressPrefix}
use Rattle.loss_chain.specs.Lost.{Lost}
use Rattle.loss_chain.specs.Tables.{Tables}

-- a row at a prefix, in one of these lost tables
abbrev pub IsLostRow : {R : Type 0} → List (Lost R) → AddressPrefix → R → Type 0
IsLostRow [] p row = ⊥
IsLostRow (d ∷ ds) p row = (map.get d.rows p ≡ Some row) ⊎ IsLostRow ds p row

-- a row at a prefix, live or lost
abbrev pub IsRow : {R : Type 0} → Tables R → AddressPrefix → R → Type 0
IsRow t p row = (map.get t.live p ≡ Some row) ⊎ IsLostRow t.deletions p row

-- this holds of each row, live or lost
abbrev pub AllRows : {R : Type 0} → (R → Type 0) → Tables R → Type 0
AllRows {R} P t = (p : AddressPrefix) (row : R) → IsRow t p row → P row
