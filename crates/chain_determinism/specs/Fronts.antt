-- Changes at one prefix that go down a way, however far.
use Rattle.std.specs.Prelude.{List, [], ◌∷◌}
use Rattle.std.specs.List.{IsDistinct}
use Rattle.addr4.specs.Prefixes.{AddressPrefix}
use Rattle.journal_text.specs.Links.{same_link}
use Rattle.journal_text.specs.declared.link.Link.{Link}
use Rattle.journal_text.specs.Lines.{Entry}
use Rattle.journal_text.specs.Lines.{Value}
use Rattle.journal_text.specs.Falls.{IsChangeOn}

-- one change at the prefix on each of the first of these links, in their order
abbrev pub IsFront : AddressPrefix → List Link → List (Entry Value) → Type 0
IsFront p [] [] = Unit {0}
IsFront p [] (e ∷ es) = ⊥
IsFront p (link ∷ links) [] = Unit {0}
IsFront p (link ∷ links) (e ∷ es) = IsChangeOn link p e × IsFront p links es

-- no link of the way is passed twice
abbrev pub AreDifferent : List Link → Type 0
AreDifferent way = IsDistinct same_link way
