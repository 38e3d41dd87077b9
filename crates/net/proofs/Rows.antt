-- Rows of numbers that lie one after the other.
use Rattle.std.proofs.Common.{◌≡◌, ℕ, ◌+◌, ◌-◌, ◌*◌, ◌<◌, ◌≤◌, cond, ltb, List, ◌++◌, drop, length, get_or, replicate, sym, refl, ap, ◌∙◌, ⊎_elim, mul-le-mul_right, add-mul, one-mul, arith}
use lib.ListN.{length-replicate}
use Rattle.std.proofs.lemmas.List.{get_or_past, get_or-replicate, get_or_append_left, get_or-append_right, get_or-drop}
use Rattle.std.proofs.lemmas.Bool.{cases_lt, lt-ltb, le-ltb, cond-true, cond-false}
use Rattle.net.specs.Model.{cell_at}

-- noughts are noughts at every index
pub noughts : (n k : ℕ) → ◌≡◌ {A = ℕ} (get_or (replicate n 0) k 0) 0
noughts n k = ⊎_elim (get_or-replicate n k 0 0) (λ past. get_or_past (replicate n 0) k 0 (simp length-replicate past)) (cases_lt k n)

-- noughts after the numbers change nothing that is read
pub noughts-after : (xs : List ℕ) (m n k : ℕ) → get_or (xs ++ drop m (replicate n 0)) k 0 ≡ get_or xs k 0
noughts-after xs m n k =
    ⊎_elim
    (get_or_append_left xs (drop m (replicate n 0)) 0 k)
    (λ past.
    get_or-append_right xs (drop m (replicate n 0)) (length xs) k 0 refl past
    ∙ get_or-drop m (replicate n 0) (k - length xs) 0
    ∙ noughts n (m + (k - length xs))
    ∙ sym (get_or_past xs k 0 past))
    (cases_lt k (length xs))

-- row t of `height` rows ends within all of them
pub row_within : (t width height : ℕ) → t < height → t * width + width ≤ height * width
row_within t width height h =
    let le : (t + 1) * width ≤ height * width = mul-le-mul_right width (let h' : t + 1 ≤ height = omega arith in h') in
    let e : (t + 1) * width ≡ t * width + 1 * width = add-mul t 1 width in
    let o : 1 * width ≡ width = one-mul width in
    omega arith

-- an arc at a place of the row, and past the row
pub arc-in : (width : ℕ) (rows : List ℕ) (t p : ℕ) → p < width → cell_at width rows t p ≡ get_or rows (t * width + p) 0
arc-in width rows t p h = cond-true (ltb p width) _ _ (lt-ltb p width h)

pub arc-past : (width : ℕ) (rows : List ℕ) (t p : ℕ) → width ≤ p → cell_at width rows t p ≡ 0
arc-past width rows t p h = cond-false (ltb p width) _ _ (le-ltb p width h)

-- a row past the last one has no arc
pub arc-none : (width height : ℕ) (rows : List ℕ) → ((k : ℕ) → height * width ≤ k → get_or rows k 0 ≡ 0) → (t p : ℕ) → height ≤ t → cell_at width rows t p ≡ 0
arc-none width height rows blank t p h =
    ⊎_elim
    (λ inside. arc-in width rows t p inside ∙ blank (t * width + p) (let le : height * width ≤ t * width = mul-le-mul_right width h in omega arith))
    (arc-past width rows t p)
    (cases_lt p width)

-- rows with the same numbers have the same arcs
pub same-arcs : (width : ℕ) (rows rows' : List ℕ) → ((k : ℕ) → get_or rows k 0 ≡ get_or rows' k 0) → (t p : ℕ) → cell_at width rows t p ≡ cell_at width rows' t p
same-arcs width rows rows' e t p = ap (λ x. cond (ltb p width) x 0) (e (t * width + p))
