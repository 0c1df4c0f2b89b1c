-- Lines as text.
use Rattle.std.specs.Prelude.{ℕ, List, ◌++◌, Some, None, codes, decimal}
use Rattle.line.specs.declared.Line.{Line}
use Rattle.line.specs.declared.Line.TheVariants.{Film, Period, Pass, Stray, Starved, Miss, Stock, LongStock, Wait, Fault}

-- a number after a space
abbrev pub also : ℕ → List ℕ
also n = codes " " ++ decimal n

abbrev pub text : Line → List ℕ
text (Film m n c) = codes "FILM" ++ (also m ++ (also n ++ also c))
text (Period p) = codes "PERIOD" ++ also p
text Pass = codes "CHECK PASS"
text (Stray s k p) = codes "CHECK STRAY" ++ (also s ++ (also k ++ also p))
text (Starved i t) = codes "CHECK STARVED" ++ (also i ++ also t)
text (Miss i t) = codes "MISS" ++ (also i ++ also t)
text (Stock p t) = codes "STOCK" ++ (also p ++ also t)
text LongStock = codes "STOCK LONG"
text (Wait m) = codes "WAIT" ++ also m
text (Fault k b None) = codes "FAULT" ++ (also k ++ also b)
text (Fault k b (Some l)) = codes "FAULT" ++ (also k ++ (also b ++ also l))
