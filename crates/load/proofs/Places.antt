-- Where the closures of a plan stand in its file.
use Rattle.std.proofs.Common.{◌≡◌, ℕ, ◌+◌, ◌-◌, ◌*◌, ◌≤◌, List, [], ◌∷◌, ◌++◌, map, length, take, vec_items, refl, ap, ◌∙◌, arith, length-append}
use Rattle.std.proofs.lemmas.List.{length-take-le}
use Rattle.records.specs.declared.kinds.Closure.{Closure}
use Rattle.format.specs.declared.plan.Plan.{Plan}
use Rattle.format.specs.Items.{film, part, closure, end, bytes}
use Rattle.format.specs.Format.{encoded}
use Rattle.format.specs.Answers.{listed, Reads}
use Rattle.format.proofs.Lists.{encoded_append}
use Rattle.load.specs.Loading.{closure_byte}

-- each closure takes six bytes
closures_long : (cs : List Closure) → length (encoded (map closure cs)) ≡ 6 * length cs
closures_long [] = refl
closures_long (c ∷ cs) = omega (arith, length-append (bytes (closure c)) (encoded (map closure cs)), closures_long cs)

-- a file ends with its closures and one byte more
pub file_long : (file : List ℕ) (p : Plan) (i : ℕ) → Reads file p → i ≤ length (vec_items p.closures) → length file ≡ closure_byte p i + 6 * (length (vec_items p.closures) - i) + 1
file_long file p i r h =
    let ps = map part (listed p.parts) in
    let cs = vec_items p.closures in
    let f = bytes (film p.film) in
    let long = ap length r.whole ∙ length-append f (encoded (ps ++ (map closure cs ++ (end ∷ [])))) in
    let byte = length-append f (encoded (ps ++ map closure (take i cs))) in
    omega (arith, long, byte, ap length (encoded_append ps (map closure cs ++ (end ∷ []))), ap length (encoded_append (map closure cs) (end ∷ [])), ap length (encoded_append ps (map closure (take i cs))), length-append (encoded ps) (encoded (map closure cs ++ (end ∷ []))), length-append (encoded (map closure cs)) (encoded (end ∷ [])), length-append (encoded ps) (encoded (map closure (take i cs))), closures_long cs, closures_long (take i cs), length-take-le i cs h)
