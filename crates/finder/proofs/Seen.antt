-- Reading the tables as they are seen.
use Rattle.std.proofs.Common.{◌≡◌, ℕ, zero, suc, ◌+◌, ◌-◌, ◌<◌, ◌≤◌, true, List, [], ◌∷◌, ◌++◌, map, length, get_or, take, set, Some, None, Option, MatchOption, sym, refl, ap, ◌∙◌, subst, ap₂, arith}
use native.Mathlib.Decide.{dec_lt}
use Rattle.std.specs.List.{AllWithin, HoldsAt}
use Rattle.fixed.specs.Listed.{listed}
use Rattle.fixed.proofs.Lengths.{listed-length}
use Rattle.std.proofs.lemmas.List.{get_or-map, get_or-take, get_or_past, length-map, length-take, length-take-le, take_more_set, map_push, ext_get_or}
use Rattle.operators.specs.Bands.{SetMeaning}
use Rattle.formulas.specs.Setting.{Setting}
use Rattle.formulas.specs.declared.steps.Top.TheVariants.{Channel, Operator}
use Rattle.rows.specs.Rows.{StandingRow, wanted_of}
use Rattle.rows.specs.Read.{row_seen}
use Rattle.rows.specs.declared.row.Row.{Row}
use Rattle.search.specs.Lists.{In, numbers}
use Rattle.search.specs.Places as places
use Rattle.search.specs.Places.{bands_at, weights_at}
use Rattle.search.specs.Stored.{Held, Looked, grown, no_place, no_row, columns_in, band_of, column_of, last_weight}
use Rattle.search.proofs.Lists.{choose-by, in_at, length-numbers, get_or_tabled}
use Rattle.finder.specs.View.{place_seen, bank_seen, held_seen, rows_seen, made_of, candidate_seen}
use Rattle.finder.specs.declared.bank.Candidate.{Candidate}
use Rattle.finder.specs.declared.bank.Place.{Place}
use Rattle.finder.specs.declared.bank.Bank.{Bank}
use Rattle.finder.specs.declared.sheet.Sheet.{Sheet}

-- what is seen at an index of a table's front
module _ {A B : Type 0} (f : A → B) (xs : List A) (n : ℕ) where
  pub front_at : (i : ℕ) (d : A) (e : B) → i < n → n ≤ length xs → get_or (map f (take n xs)) i e ≡ f (get_or xs i d)
  front_at i d e l k = let h = length-take-le n xs k in get_or-map f (take n xs) i d e (omega arith) ∙ ap f (get_or-take n xs i d l)

  pub front_length : n ≤ length xs → length (map f (take n xs)) ≡ n
  front_length k = length-map (take n xs) f ∙ length-take-le n xs k

module _ (m : SetMeaning) (n : ℕ) where
  pub seen_length : (b : Bank) → length (bank_seen m n b) ≡ b.places.count
  seen_length b = let k = b.places.few in let t = b.places.whole in front_length (place_seen m n) b.places.table b.places.count (omega arith)

  pub pushed : (b : Bank) (p : Place) → b.places.count < 512 → map (place_seen m n) (take (b.places.count + 1) (set b.places.table b.places.count p)) ≡ bank_seen m n b ++ (place_seen m n p ∷ [])
  pushed b p l = let t = b.places.whole in ap (map (place_seen m n)) (take_more_set b.places.table b.places.count p (omega arith)) ∙ map_push (place_seen m n) (take b.places.count b.places.table) p

  -- a place more, and none
  pub grows : (b : Bank) (p : places.Place) (ps : List places.Place) → b.places.count < 512 → ps ≡ bank_seen m n b ++ (p ∷ []) → ◌≡◌ {A = Held} (record { places = ps; over = b.over }) (grown (held_seen m n b) p)
  grows b p ps l e =
      choose-by (λ (h : Held). record { places = ps; over = b.over } ≡ h) (dec_lt (length (bank_seen m n b)) 512) (λ q. ap (λ u. record { places = u; over = b.over }) e) (λ k. let s = seen_length b in absurd (k (omega arith)))

  pub spills : (b : Bank) (p : places.Place) → 512 ≤ b.places.count → ◌≡◌ {A = Held} (record { places = bank_seen m n b; over = true }) (grown (held_seen m n b) p)
  spills b p l =
      choose-by (λ (h : Held). record { places = bank_seen m n b; over = true } ≡ h) (dec_lt (length (bank_seen m n b)) 512) (λ q. let s = seen_length b in absurd (omega arith)) (λ k. refl)

-- ── looking for a column ──

map-map : {A B C : Type 0} (g : B → C) (f : A → B) (xs : List A) → map g (map f xs) ≡ map (λ x. g (f x)) xs
map-map g f [] = refl
map-map g f (x ∷ xs) = ap (λ l. g (f x) ∷ l) (map-map g f xs)

pub some_of : {A : Type 0} (xs : List A) → 0 < length xs → A
some_of [] l = absurd (omega arith)
some_of (x ∷ xs) l = x

module _ (m : SetMeaning) (n : ℕ) (b : Bank) where
  pub columns_length : length (columns_in (bank_seen m n b)) ≡ b.places.count
  columns_length = length-map (bank_seen m n b) (λ (p : places.Place). p.column) ∙ seen_length m n b

  pub column_seen : (i : ℕ) (d : Place) → i < b.places.count → get_or (columns_in (bank_seen m n b)) i [] ≡ take n (get_or b.places.table i d).column.bands
  column_seen i d l =
      let k = b.places.few in let t = b.places.whole in let s = seen_length m n b in
      get_or-map (λ (p : places.Place). p.column) (bank_seen m n b) i no_place [] (omega arith)
      ∙ ap (λ (p : places.Place). p.column) (front_at (place_seen m n) b.places.table b.places.count i d no_place l (omega arith))

  pub not_seen : (x : List ℕ) → ((k : ℕ) (d : Place) → k < b.places.count → take n (get_or b.places.table k d).column.bands ≡ x → ⊥) → In x (columns_in (bank_seen m n b)) → ⊥
  not_seen x none h =
      let r = in_at x (columns_in (bank_seen m n b)) h in
      let s = columns_length in
      let l = r.1 in
      let t = b.places.whole in
      let d = some_of b.places.table (omega arith) in
      none r.0 d (omega arith) (sym (column_seen r.0 d (omega arith)) ∙ r.2 [])

  -- what a search of the places for a column comes to
  pub looked : (x : List ℕ) (r : Option ℕ) →
      MatchOption r (AllWithin (λ (p : Place). take n p.column.bands ≡ x → ⊥) (listed b.places) 0 (length (listed b.places)))
      (λ i. (i < length (listed b.places)) × HoldsAt (λ (p : Place). take n p.column.bands ≡ x) (listed b.places) i × AllWithin (λ (p : Place). take n p.column.bands ≡ x → ⊥) (listed b.places) 0 i)
      → Looked (columns_in (bank_seen m n b)) x r
  looked x None none =
      let l = listed-length b.places in
      not_seen x (λ k d h e. none k d (omega arith) (omega arith) (ap (λ (p : Place). take n p.column.bands) (get_or-take b.places.count b.places.table k d h) ∙ e))
  looked x (Some i) at =
      let l = listed-length b.places in
      let c = columns_length in
      let h = at.0 in
      let t = b.places.whole in
      let d = some_of b.places.table (omega arith) in
      (omega arith, column_seen i d (omega arith) ∙ ap (λ (p : Place). take n p.column.bands) (sym (get_or-take b.places.count b.places.table i d (omega arith))) ∙ at.1 d)

-- the same, by another name of the number of rows
pub looked_by : (m : SetMeaning) (b : Bank) (x : List ℕ) (r : Option ℕ) (k n : ℕ) → k ≡ n → Looked (columns_in (bank_seen m k b)) (take k x) r → Looked (columns_in (bank_seen m n b)) (take n x) r
looked_by m b x r k n e = subst (λ j. Looked (columns_in (bank_seen m j b)) (take j x) r) e

-- ── the wanted column ──

pub length-wanted : (rs : List StandingRow) → length (wanted_of rs) ≡ length rs
length-wanted [] = refl
length-wanted (r ∷ rs) = ap suc (length-wanted rs)

-- the wanted bands of rows as they are stored
pub wanted_stored : (n : ℕ) (rs : List Row) → wanted_of (map (row_seen n) rs) ≡ map (λ (r : Row). r.wanted) rs
wanted_stored n [] = refl
wanted_stored n (r ∷ rs) = ap (λ l. r.wanted ∷ l) (wanted_stored n rs)

module _ (s : Sheet) where
  pub rows-length : length (rows_seen s) ≡ s.rows.count
  rows-length = let k = s.rows.few in let t = s.rows.whole in front_length (row_seen s.channels.value) s.rows.table s.rows.count (omega arith)

  pub row-past : (j i : ℕ) → j < s.rows.count → s.channels.value ≤ i → get_or (get_or (rows_seen s) j no_row).bands i 15 ≡ 15
  row-past j i l m =
      let k = s.rows.few in let t = s.rows.whole in
      let d = some_of s.rows.table (omega arith) in
      let e = length-take s.channels.value (get_or s.rows.table j d).bands in
      ap (λ (x : StandingRow). get_or x.bands i 15) (front_at (row_seen s.channels.value) s.rows.table s.rows.count j d no_row l (omega arith)) ∙ get_or_past (take s.channels.value (get_or s.rows.table j d).bands) i 15 (omega arith)

-- ── a column from its bands ──

pub tabled : (f : ℕ → ℕ) (n : ℕ) (r : List ℕ) → n ≤ length r → ((j : ℕ) → j < n → get_or r j 15 ≡ f j) → take n r ≡ map f (numbers n)
tabled f n r l at =
    let a = length-take-le n r l in
    let b = length-map (numbers n) f ∙ length-numbers n in
    ext_get_or 15 (take n r) (map f (numbers n)) (a ∙ sym b) (λ j k. get_or-take n r j 15 (subst (λ m. j < m) a k) ∙ at j (subst (λ m. j < m) a k) ∙ sym (get_or_tabled f n j 15 (subst (λ m. j < m) a k)))

-- the arguments' bands and weights are the first ones of two
pub bands_two : (ps : List places.Place) (j a x y : ℕ) → a ≤ 2 → bands_at ps no_place j (take a (x ∷ y ∷ [])) ≡ take a (get_or (get_or ps x no_place).column j 15 ∷ get_or (get_or ps y no_place).column j 15 ∷ [])
bands_two ps j zero x y l = refl
bands_two ps j (suc zero) x y l = refl
bands_two ps j (suc (suc zero)) x y l = refl
bands_two ps j (suc (suc (suc a))) x y l = absurd (omega arith)

two_items : (xs : List ℕ) → length xs ≡ 2 → get_or xs 0 0 ∷ get_or xs 1 0 ∷ [] ≡ xs
two_items [] e = absurd (omega arith)
two_items (x ∷ []) e = absurd (omega arith)
two_items (x ∷ y ∷ []) e = refl
two_items (x ∷ y ∷ z ∷ xs) e = absurd (omega arith)

-- a candidate of an operator, by its two argument places
pub operator_seen : (m : SetMeaning) (op : ℕ) (t : Candidate) → t.top ≡ Operator op → places.of_operator op (take (m.arity op) (get_or t.args 0 0 ∷ get_or t.args 1 0 ∷ [])) ≡ candidate_seen m t
operator_seen m op t e = ap (λ xs. places.of_operator op (take (m.arity op) xs)) (two_items t.args t.two) ∙ ap (λ u. made_of m u t.args) (sym e)

module _ (E : Setting) (s : Sheet) (ps : List places.Place) (r : List ℕ) (long : length r ≡ 16) where
  column-by : (t : places.Candidate) → ((j : ℕ) → j < s.rows.count → get_or r j 15 ≡ band_of E (rows_seen s) ps t j) → take s.rows.count r ≡ column_of E (rows_seen s) ps t
  unfolding column_of
  column-by t at = let k = s.rows.few in tabled (band_of E (rows_seen s) ps t) s.rows.count r (omega arith) at ∙ ap (λ n. map (band_of E (rows_seen s) ps t) (numbers n)) (sym (rows-length s))

  pub channel-right : (m : SetMeaning) (i : ℕ) (t : Candidate) → t.top ≡ Channel i → ((j : ℕ) → j < s.rows.count → get_or r j 15 ≡ get_or (get_or (rows_seen s) j no_row).bands i 15) → take s.rows.count r ≡ column_of E (rows_seen s) ps (candidate_seen m t)
  channel-right m i t e at = column-by (places.of_channel i) at ∙ ap (λ u. column_of E (rows_seen s) ps (made_of m u t.args)) (sym e)

  pub operator-right : (op : ℕ) (a b : List ℕ) (t : Candidate) → t.top ≡ Operator op → E.set.arity op ≤ 2 →
      ((j : ℕ) → j < s.rows.count → get_or a j 15 ≡ get_or (get_or ps (get_or t.args 0 0) no_place).column j 15) →
      ((j : ℕ) → j < s.rows.count → get_or b j 15 ≡ get_or (get_or ps (get_or t.args 1 0) no_place).column j 15) →
      ((j : ℕ) → j < s.rows.count → get_or r j 15 ≡ E.set.band op (take (E.set.arity op) (get_or a j 15 ∷ get_or b j 15 ∷ []))) →
      take s.rows.count r ≡ column_of E (rows_seen s) ps (candidate_seen E.set t)
  operator-right op a b t e narrow ae be at =
      let x = get_or t.args 0 0 in
      let y = get_or t.args 1 0 in
      column-by (places.of_operator op (take (E.set.arity op) (x ∷ y ∷ [])))
      (λ j l. at j l ∙ ap₂ (λ u v. E.set.band op (take (E.set.arity op) (u ∷ v ∷ []))) (ae j l) (be j l) ∙ ap (E.set.band op) (sym (bands_two ps j (E.set.arity op) x y narrow)))
      ∙ ap (column_of E (rows_seen s) ps) (operator_seen E.set op t e)

-- ── the last place ──

last_at : (ps : List places.Place) → 0 < length ps → last_weight ps ≡ (get_or ps (length ps - 1) no_place).weight
last_at [] l = absurd (omega arith)
last_at (p ∷ []) l = refl
last_at (p ∷ q ∷ ps) l = last_at (q ∷ ps) (omega arith) ∙ (let e : suc (length (q ∷ ps) - 1) ≡ length (p ∷ q ∷ ps) - 1 = omega arith in ap (λ i. (get_or (p ∷ q ∷ ps) i no_place).weight) e)

pub last_seen : (m : SetMeaning) (n : ℕ) (b : Bank) (d : Place) → 0 < b.places.count → last_weight (bank_seen m n b) ≡ (get_or b.places.table (b.places.count - 1) d).weight.value
last_seen m n b d l =
    let few = b.places.few in let t = b.places.whole in let s = seen_length m n b in
    last_at (bank_seen m n b) (omega arith)
    ∙ ap (λ k. (get_or (bank_seen m n b) (k - 1) no_place).weight) s
    ∙ ap (λ (p : places.Place). p.weight) (front_at (place_seen m n) b.places.table b.places.count (b.places.count - 1) d no_place (omega arith) (omega arith))
