-- How many bits the numbers have that addresses are, whatever their family.
use Rattle.std.specs.Prelude.{ℕ}

abbrev pub width : ℕ
width = 128
