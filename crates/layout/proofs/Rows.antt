-- The defined bits of a field are the bits of its rows: masking with them keeps each row's value at its place and nothing else.
-- Assumes nothing.
use Prim.Native.Nat.{ℕ, ◌+◌, ◌-◌, ◌*◌, ◌/◌, ◌%◌, ◌^◌, ◌≤◌, ◌<◌}
use mathlib.Core.List.{List, [], ◌∷◌}
use mathlib.Core.Path.{◌≡◌, refl, ◌∙◌, sym, ap, ap₂}
use native.Mathlib.Nat.{add_comm, add-zero, zero-add, zero-mul, add-mul, mul_assoc, mod-lt, mul-lt-mul_of_pos_right, lt_of_lt_of_le}
use native.Mathlib.Omega.{arith}
use lib.Bits.{bit_and, and_block, and_high, and_zero_r}
use lib.Arith.{digits_lt}
use lib.Pow.{pow_mono, split, high as above, low as below, shr-shr, high_ones, pow-add, pow_pos, ones_lt}
use Rattle.layout.specs.Layout.{Bits, value_of, placed, defined_bits}

-- the rows stand one after the other, from bit m on
abbrev pub Rising : ℕ → List Bits → Type 0
Rising m [] = Unit {0}
Rising m (b ∷ bs) = (m ≤ b.first) × Rising (b.first + b.width) bs

module _ (w m : ℕ) where
  -- w by its bits from m on and its bits below
  over : (q a : ℕ) → a < 2 ^ m → bit_and w (q * 2 ^ m + a) ≡ bit_and (w / 2 ^ m) q * 2 ^ m + bit_and (w % 2 ^ m) a
  over q a h =
      ap (λ n. bit_and n (q * 2 ^ m + a)) (sym (split w m))
      ∙ and_block m (w / 2 ^ m) q (w % 2 ^ m) a (mod-lt w (pow_pos m)) h

  -- a mask of bits below m and bits from m on keeps what each of the two keeps
  parts : (q a : ℕ) → a < 2 ^ m → bit_and w (a + q * 2 ^ m) ≡ bit_and w a + bit_and w (q * 2 ^ m)
  parts q a h =
      let low : bit_and w a ≡ bit_and (w % 2 ^ m) a =
      ap (bit_and w) (sym (zero-add a) ∙ ap (λ z. z + a) (sym (zero-mul (2 ^ m))))
      ∙ over 0 a h
      ∙ ap (λ z. z * 2 ^ m + bit_and (w % 2 ^ m) a) (and_zero_r (w / 2 ^ m))
      ∙ ap (λ z. z + bit_and (w % 2 ^ m) a) (zero-mul (2 ^ m))
      ∙ zero-add (bit_and (w % 2 ^ m) a)
      in
      let high : bit_and w (q * 2 ^ m) ≡ bit_and (w / 2 ^ m) q * 2 ^ m =
      ap (bit_and w) (sym (add-zero (q * 2 ^ m)))
      ∙ over q 0 (pow_pos m)
      ∙ ap (λ z. bit_and (w / 2 ^ m) q * 2 ^ m + z) (and_zero_r (w % 2 ^ m))
      ∙ add-zero (bit_and (w / 2 ^ m) q * 2 ^ m)
      in
      ap (bit_and w) (add_comm a (q * 2 ^ m)) ∙ over q a h ∙ add_comm (bit_and (w / 2 ^ m) q * 2 ^ m) (bit_and (w % 2 ^ m) a) ∙ ap₂ (λ x y. x + y) (sym low) (sym high)

-- a field by its value at some bits, what stands below and what stands above
pub value_is : (w low v high f k : ℕ) → w ≡ low + v * 2 ^ f + high * 2 ^ (f + k) → low < 2 ^ f → v < 2 ^ k → w / 2 ^ f % 2 ^ k ≡ v
value_is w low v high f k e hl hv =
    let g : w ≡ (high * 2 ^ k + v) * 2 ^ f + low =
    e
    ∙ ap (λ n. low + v * 2 ^ f + high * n) (ap (λ n. 2 ^ n) (add_comm f k) ∙ pow-add 2 k f)
    ∙ ap (λ n. low + v * 2 ^ f + n) (sym (mul_assoc high (2 ^ k) (2 ^ f)))
    ∙ ordered low (v * 2 ^ f) (high * 2 ^ k * 2 ^ f)
    ∙ ap (λ n. n + low) (sym (add-mul (high * 2 ^ k) v (2 ^ f)))
    in
    ap (λ n. n / 2 ^ f % 2 ^ k) g ∙ ap (λ n. n % 2 ^ k) (above (high * 2 ^ k + v) f hl) ∙ below high k hv
  where
    ordered : (a b c : ℕ) → a + b + c ≡ (c + b) + a
    ordered a b c = omega arith

-- a field from bit f on is its next k bits and the rest
pub splits : (w f k : ℕ) → w / 2 ^ f ≡ w / 2 ^ f % 2 ^ k + w / 2 ^ (f + k) * 2 ^ k
splits w f k = sym (split (w / 2 ^ f) k) ∙ ap (λ n. n * 2 ^ k + w / 2 ^ f % 2 ^ k) (shr-shr w f k) ∙ add_comm (w / 2 ^ (f + k) * 2 ^ k) (w / 2 ^ f % 2 ^ k)

-- a value placed at bit f is a multiple of 2 ^ m where m is no more than f
raised : (v f m : ℕ) → m ≤ f → v * 2 ^ f ≡ v * 2 ^ (f - m) * 2 ^ m
raised v f m h =
    let e : f ≡ (f - m) + m = omega arith in
    ap (λ n. v * 2 ^ n) e ∙ ap (λ n. v * n) (pow-add 2 (f - m) m) ∙ sym (mul_assoc v (2 ^ (f - m)) (2 ^ m))

-- values placed at the rows, in their order
abbrev pub pack : List Bits → List ℕ → ℕ
pack [] vs = 0
pack (b ∷ bs) [] = 0
pack (b ∷ bs) (v ∷ vs) = placed b v + pack bs vs

multiple : (m : ℕ) (bs : List Bits) (vs : List ℕ) → Rising m bs → (q : ℕ) × (pack bs vs ≡ q * 2 ^ m)
multiple m [] vs r = (0, sym (zero-mul (2 ^ m)))
multiple m (b ∷ bs) [] r = (0, sym (zero-mul (2 ^ m)))
multiple m (b ∷ bs) (v ∷ vs) (h, r) =
    let n = b.first + b.width in
    let (q, e) = multiple n bs vs r in
    let l : m ≤ n = omega arith in
    (v * 2 ^ (b.first - m) + q * 2 ^ (n - m), ap₂ (λ x y. x + y) (raised v b.first m h) (e ∙ raised q n m l) ∙ sym (add-mul (v * 2 ^ (b.first - m)) (q * 2 ^ (n - m)) (2 ^ m)))

-- ---- masking

ones : List Bits → List ℕ
ones [] = []
ones (b ∷ bs) = (2 ^ b.width - 1) ∷ ones bs

defined : (bs : List Bits) → defined_bits bs ≡ pack bs (ones bs)
unfolding ones
defined [] = refl
defined (b ∷ bs) = ap (λ n. placed b (2 ^ b.width - 1) + n) (defined bs)

-- one row
row_kept : (b : Bits) (w : ℕ) → bit_and w (placed b (2 ^ b.width - 1)) ≡ placed b (value_of b w)
row_kept b w = ap (bit_and w) (sym (high_ones b.width b.first)) ∙ and_high w b.width b.first

row_below : (b : Bits) → placed b (2 ^ b.width - 1) < 2 ^ (b.first + b.width)
row_below b =
    rw (add_comm b.first b.width, pow-add 2 b.width b.first)
    (mul-lt-mul_of_pos_right (ones_lt b.width) (pow_pos b.first))

abbrev pub values : List Bits → ℕ → List ℕ
values [] w = []
values (b ∷ bs) w = value_of b w ∷ values bs w

-- the mask of the defined bits keeps the rows' values and nothing else
pub and_rows : (m : ℕ) (bs : List Bits) → Rising m bs → (w : ℕ) → bit_and w (defined_bits bs) ≡ pack bs (values bs w)
and_rows m [] r w = and_zero_r w
and_rows m (b ∷ bs) (h, r) w =
    let n = b.first + b.width in
    let (q, p) = multiple n bs (ones bs) r in
    let e = defined bs ∙ p in
    ap (λ z. bit_and w (placed b (2 ^ b.width - 1) + z)) e
    ∙ parts w n q (placed b (2 ^ b.width - 1)) (row_below b)
    ∙ ap₂ (λ x y. x + y) (row_kept b w) (ap (bit_and w) (sym e) ∙ and_rows n bs r w)

-- ---- values that fit

abbrev pub Fit : List Bits → List ℕ → Type 0
Fit [] [] = Unit {0}
Fit [] (v ∷ vs) = ⊥
Fit (b ∷ bs) [] = ⊥
Fit (b ∷ bs) (v ∷ vs) = (v < 2 ^ b.width) × Fit bs vs

placed_below : (b : Bits) (m low v : ℕ) → m ≤ b.first → low < 2 ^ m → v < 2 ^ b.width → low + placed b v < 2 ^ (b.first + b.width)
placed_below b m low v h hl hv =
    let l : low < 2 ^ b.first = lt_of_lt_of_le hl (pow_mono h) in
    rw (add_comm b.first b.width, pow-add 2 b.width b.first, add_comm low (placed b v)) (digits_lt hv l)

-- below the rows may stand anything
values_over : (m : ℕ) (bs : List Bits) (vs : List ℕ) (low : ℕ) → Rising m bs → Fit bs vs → low < 2 ^ m → values bs (low + pack bs vs) ≡ vs
values_over m [] [] low r f h = refl
values_over m [] (v ∷ vs) low r f h = absurd f
values_over m (b ∷ bs) [] low r f h = absurd f
values_over m (b ∷ bs) (v ∷ vs) low (hm, r) (hv, f) h =
    let n = b.first + b.width in
    let (q, e) = multiple n bs vs r in
    let g : low + (placed b v + pack bs vs) ≡ low + placed b v + pack bs vs = omega arith in
    ap₂ (λ x xs. x ∷ xs)
    (value_is (low + (placed b v + pack bs vs)) low v q b.first b.width (g ∙ ap (λ z. low + placed b v + z) e) (lt_of_lt_of_le h (pow_mono hm)) hv)
    (ap (values bs) g ∙ values_over n bs vs (low + placed b v) r f (placed_below b m low v hm h hv))

-- the values of packed values are these
pub values_again : (bs : List Bits) (vs : List ℕ) → Rising 0 bs → Fit bs vs → values bs (pack bs vs) ≡ vs
values_again bs vs r f = ap (values bs) (sym (zero-add (pack bs vs))) ∙ values_over 0 bs vs 0 r f (pow_pos 0)
