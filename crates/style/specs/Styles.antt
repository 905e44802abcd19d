-- The style of list text (02, T-01).
use Rattle.std.specs.Prelude.{ℕ, Bool, true, ◌&&◌, ◌||◌, not, ltb, leb, eqb}
use Rattle.style.specs.declared.Style.{Style}

-- the bytes that may stand between the two numbers of a range
abbrev pub joins : ℕ → Bool
joins c = leb 33 c && (leb c 126 && (not (eqb c 44) && (ltb c 48 || ltb 57 c)))

-- the styles that there are
abbrev pub allowed : Style → Bool
allowed s = leb s.first 1_000 && (joins s.joiner && (leb 2 s.shortest && leb s.shortest 9))

-- 0, hyphen, blank, 2
abbrev pub plain_style : Style
plain_style = record { first = 0; joiner = 45; blank = true; shortest = 2 }
