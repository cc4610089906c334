-- Bits that are laid one after the other are laid as one list, and a whole sheet's bits are its bytes at the start of the buffer.
use mathlib.Core.Path.{◌≡◌, refl, sym, ap, ap₂, ◌∙◌}
use mathlib.Core.List.{List, [], ◌∷◌, ◌++◌, append_assoc, append-nil}
use Prim.Native.Nat.{ℕ, suc, ◌+◌, ◌*◌, ◌/◌, ◌≤◌, ◌<◌}
use native.Mathlib.Nat.{add-zero, add_assoc, zero-add}
use native.Mathlib.Numerals.{add-one}
use native.Mathlib.Omega.{arith}
use lib.ListN.{length, get_or, take, drop, length-append, length-drop, take-append-drop}
use lib.Seq.{take-suc, get_or-drop, take_at, drop_at, drop-drop, take_all, length-take-le}
use Rattle.rules.specs.Bits.{digits, bits, bytes, Below, nil}
use Rattle.rules.specs.Sheet.{Entry as SheetEntry, entry, entry_bits, sheet_bits, size, padding, code}
use Rattle.writer.specs.Entries.{Entry, bits_of, entry_in, byte-entry}
use Rattle.rules.specs.Answers.{written}
use Rattle.rules.proofs.Fields.{length_digits, length-pack, digits-join, pack-append, drop-pack, below-digits, below-append, below-drop, below-bytes, bits-bytes, bytes_bits, length-bytes}
use Rattle.bits.specs.Access.{Put}
use Rattle.writer.specs.Entered.{listed, head_bits, entered, Writing, over, Laid, Started}

-- ---- laying bits

-- nothing is laid
pub laid_none : (s : List ℕ) (at : ℕ) → Laid s at [] s
laid_none s at = record { is = sym (ap (λ (k : ℕ). take at (bits s) ++ drop k (bits s)) (add-zero at) ∙ take-append-drop at (bits s)); kept = refl }

pub put-laid : (s s' : List ℕ) (at w v : ℕ) → Put s at w v s' → Laid s at (digits w v) s'
put-laid s s' at w v p =
    record {
      is =
          p.laid
          ∙ ap (λ (d : List ℕ). take at (bits s) ++ d ++ drop (at + w) (bits s)) (take_all w (digits w v) (omega (arith, length_digits w v)))
          ∙ append_assoc (take at (bits s)) (digits w v) (drop (at + w) (bits s))
          ∙ ap (λ (k : ℕ). take at (bits s) ++ (digits w v ++ drop (at + k) (bits s))) (sym (length_digits w v));
      kept = p.kept;
    }

-- one list behind another
over-over : (l : List ℕ) (at : ℕ) (a b : List ℕ) → at ≤ length l → over (over l at a) (at + length a) b ≡ over l at (a ++ b)
over-over l at a b h =
    let p : List ℕ = take at l ++ a in
    let t : List ℕ = drop (at + length a) l in
    let n : length p ≡ at + length a = length-append (take at l) a ∙ ap (λ (k : ℕ). k + length a) (length-take-le at l h) in
    let whole : over l at a ≡ p ++ t = sym (append_assoc (take at l) a t) in
    ap (λ (m : List ℕ). over m (at + length a) b) whole
    ∙ ap₂ (λ (x y : List ℕ). x ++ (b ++ y)) (take_at p t (at + length a) n)
    (sym (drop-drop (length b) (at + length a) (p ++ t))
    ∙ ap (drop (length b)) (drop_at p t (at + length a) n)
    ∙ drop-drop (length b) (at + length a) l)
    ∙ append_assoc (take at l) a (b ++ drop (at + length a + length b) l)
    ∙ ap (λ (m : List ℕ). take at l ++ m) (sym (append_assoc a b (drop (at + length a + length b) l)))
    ∙ ap (λ (k : ℕ). take at l ++ ((a ++ b) ++ drop k l)) (add_assoc at (length a) (length b) ∙ ap (λ (k : ℕ). at + k) (sym (length-append a b)))

pub laid_more : (s s' s'' : List ℕ) (at at' : ℕ) (a b : List ℕ) → Laid s at a s' → at' ≡ at + length a → at ≤ 8 * length s → Laid s' at' b s''
    → Laid s at (a ++ b) s''
laid_more s s' s'' at at' a b p e h q =
    record {
      is =
          q.is
          ∙ ap₂ (λ (l : List ℕ) (k : ℕ). over l k b) p.is e
          ∙ over-over (bits s) at a b (omega (arith, length-pack 8 s));
      kept = q.kept ∙ p.kept;
    }

-- ---- the fields

pub head-digits : (ku kl n : ℕ) → kl ≤ 3 → n ≤ 512 → digits 16 (ku * 4096 + (kl * 1024 + n)) ≡ head_bits ku kl n
unfolding head_bits
head-digits ku kl n hl hn =
    digits-join 4 12 ku (omega arith) ∙ ap (λ (l : List ℕ). digits 4 ku ++ l) (digits-join 2 10 kl (omega arith))

pub entered-none : (es : List Entry) → entered es 0 ≡ []
unfolding entry_bits listed
entered-none es = refl

entered-append : (a b : List Entry) → entry_bits (listed (a ++ b)) ≡ entry_bits (listed a) ++ entry_bits (listed b)
unfolding entry_bits listed
entered-append [] b = refl
entered-append (e ∷ a) b =
    ap (λ (l : List ℕ). digits 2 (code e.kind) ++ (digits 4 e.above ++ l)) (entered-append a b) ∙ simp append_assoc

entered-single : (e : Entry) → entry_bits (listed (e ∷ [])) ≡ bits_of e
unfolding entry_bits listed
entered-single e = ap (λ (l : List ℕ). digits 2 (code e.kind) ++ l) (append-nil (digits 4 e.above))

pub entered-four : (a b c d : Entry) → entry_bits (listed (a ∷ b ∷ c ∷ d ∷ [])) ≡ (bits_of a ++ bits_of b) ++ (bits_of c ++ bits_of d)
unfolding entry_bits listed
entered-four a b c d = simp (append_assoc, append-nil)

pub length-entries : (es : List Entry) → length (entry_bits (listed es)) ≡ 6 * length es
unfolding entry_bits listed
length-entries [] = refl
length-entries (e ∷ es) =
    omega (arith, length-append (digits 2 (code e.kind)) (digits 4 e.above ++ entry_bits (listed es)), length-append (digits 4 e.above) (entry_bits (listed es)), length_digits 2 (code e.kind), length_digits 4 e.above, length-entries es)

pub length-listed : (es : List Entry) → length (listed es) ≡ length es
unfolding listed
length-listed [] = refl
length-listed (e ∷ es) = ap suc (length-listed es)

pub length-entered : (es : List Entry) (i : ℕ) → i ≤ length es → length (entered es i) ≡ 6 * i
length-entered es i h = length-entries (take i es) ∙ ap (λ (k : ℕ). 6 * k) (length-take-le i es h)

-- four numbers of six bits are one of 24
pub four-digits : (a b c d : ℕ) {A B C D : List ℕ} → b < 64 → c < 64 → d < 64 → digits 6 a ≡ A → digits 6 b ≡ B → digits 6 c ≡ C → digits 6 d ≡ D
    → digits 24 ((a * 64 + b) * 4096 + (c * 64 + d)) ≡ (A ++ B) ++ (C ++ D)
four-digits a b c d hb hc hd ea eb ec ed =
    digits-join 12 12 (a * 64 + b) (omega arith)
    ∙ ap₂ (λ (x y : List ℕ). x ++ y) (digits-join 6 6 a hb ∙ ap₂ (λ (x y : List ℕ). x ++ y) ea eb) (digits-join 6 6 c hd ∙ ap₂ (λ (x y : List ℕ). x ++ y) ec ed)

-- six bits are those of the entry in them
pub six-digits : (x : ℕ) → x < 64 → digits 6 x ≡ bits_of (entry_in x)
six-digits x h =
    let e = entry_in x in
    ap (digits 6) (sym (byte-entry x h)) ∙ digits-join 2 4 (code e.kind) (omega arith)

-- four entries, one by one
pub four-list : (l : List Entry) (a b c d : Entry) → length l ≡ 4 → a ≡ get_or l 0 a → b ≡ get_or l 1 b → c ≡ get_or l 2 c → d ≡ get_or l 3 d
    → l ≡ a ∷ b ∷ c ∷ d ∷ []
four-list [] a b c d n ea eb ec ed = absurd (omega arith)
four-list (x ∷ []) a b c d n ea eb ec ed = absurd (omega arith)
four-list (x ∷ y ∷ []) a b c d n ea eb ec ed = absurd (omega arith)
four-list (x ∷ y ∷ z ∷ []) a b c d n ea eb ec ed = absurd (omega arith)
four-list (x ∷ y ∷ z ∷ w ∷ []) a b c d n ea eb ec ed = cc
four-list (x ∷ y ∷ z ∷ w ∷ v ∷ l) a b c d n ea eb ec ed = absurd (omega arith)

-- the next entry of those from a place on
pub next-entry : (es : List Entry) (done i : ℕ) (x : Entry) → x ≡ get_or (drop done es) i x → done + i < length es
    → take (done + i + 1) es ≡ take (done + i) es ++ (x ∷ [])
next-entry es done i x e h =
    let own : get_or es (done + i) x ≡ x = sym (e ∙ get_or-drop done es i x) in
    rw add-one (take-suc es (done + i) x h ∙ ap (λ (y : Entry). take (done + i) es ++ (y ∷ [])) own)

-- ---- nodes behind the head, as many as have been written

module _ (es : List Entry) (s : List ℕ) (room : 2 ≤ length s) where
  pub started_none : Started s es 0 s
  started_none = record { within = omega arith; laid = rw (entered-none es) (laid_none s 16) }

  started-more : (i i' at : ℕ) (new s' s'' : List ℕ) → i' ≤ length es → at ≡ 16 + 6 * i → entered es i' ≡ entered es i ++ new
      → Started s es i s' → Laid s' at new s'' → Started s es i' s''
  started-more i i' at new s' s'' h e more p q =
      record {
        within = h;
        laid = rw more (laid_more s s' s'' 16 at (entered es i) new p.laid (omega (arith, length-entered es i p.within)) (omega arith) q);
      }

  -- one more, or four
  pub started-one : (i v : ℕ) (x : Entry) (s' s'' : List ℕ) → i < length es → take (i + 1) es ≡ take i es ++ (x ∷ []) → digits 6 v ≡ bits_of x → Started s es i s'
      → Put s' (16 + 6 * i) 6 v s'' → Started s es (i + 1) s''
  started-one i v x s' s'' h more e p q =
      let next : entered es (i + 1) ≡ entered es i ++ bits_of x =
      ap (λ (l : List Entry). entry_bits (listed l)) more ∙ entered-append (take i es) (x ∷ []) ∙ ap (λ (l : List ℕ). entered es i ++ l) (entered-single x) in
      started-more i (i + 1) (16 + 6 * i) (bits_of x) s' s'' (omega arith) (omega arith) next p (rw e at (put-laid s' s'' (16 + 6 * i) 6 v q))

  pub started-four : (k v : ℕ) (four : List Entry) (s' s'' : List ℕ) → 4 * k + 4 ≤ length es → take (4 * k + 4) es ≡ take (4 * k) es ++ four → digits 24 v ≡ entry_bits (listed four)
      → Started s es (4 * k) s' → Put s' (8 * (2 + 3 * k)) 24 v s'' → Started s es (4 * k + 4) s''
  started-four k v four s' s'' h more e p q =
      let next : entered es (4 * k + 4) ≡ entered es (4 * k) ++ entry_bits (listed four) =
      ap (λ (l : List Entry). entry_bits (listed l)) more ∙ entered-append (take (4 * k) es) four in
      started-more (4 * k) (4 * k + 4) (8 * (2 + 3 * k)) (entry_bits (listed four)) s' s'' h (omega arith) next p (rw e at (put-laid s' s'' (8 * (2 + 3 * k)) 24 v q))

-- k fours are laid, and the entries behind them are left
pub record Fours (s : List ℕ) (es : List Entry) (k : ℕ) (rest : List Entry) (size count : ℕ) (s' : List ℕ) : Type 0 where
  pub started : Started s es (4 * k) s'
  pub four : size ≡ 4
  pub counted : count ≡ k
  pub left : rest ≡ drop (4 * k) es

module _ (s : List ℕ) (es : List Entry) (room : 2 ≤ length s) where
  pub fours-none : (rest : List Entry) (size count : ℕ) → rest ≡ es → size ≡ 4 → count ≡ 0 → Fours s es 0 rest size count s
  fours-none rest size count e n c = record { started = started_none es s room; four = n; counted = c; left = e }

  pub fours-more : (k : ℕ) (rest : List Entry) (size count : ℕ) (s' : List ℕ) → Fours s es k rest size count s'
      → (four rest' : List Entry) (size' j count' v : ℕ) (s'' : List ℕ) → rest ≡ four ++ rest' → length four ≡ size → size' ≡ size → j ≡ count → count' ≡ count + 1
      → digits 24 v ≡ entry_bits (listed four) → Put s' (8 * (2 + 3 * j)) 24 v s'' → Fours s es (k + 1) rest' size' count' s''
  fours-more k rest size count s' f four rest' size' j count' v s'' e n m c d is p =
      let long : length four ≡ 4 = n ∙ f.four in
      let behind : drop (4 * k) es ≡ four ++ rest' = sym f.left ∙ e in
      let whole : es ≡ (take (4 * k) es ++ four) ++ rest' =
      sym (take-append-drop (4 * k) es) ∙ ap (λ (l : List Entry). take (4 * k) es ++ l) behind ∙ sym (append_assoc (take (4 * k) es) four rest') in
      let first : length (take (4 * k) es ++ four) ≡ 4 * k + 4 =
      omega (arith, length-append (take (4 * k) es) four, length-take-le (4 * k) es f.started.within) in
      let more : take (4 * k + 4) es ≡ take (4 * k) es ++ four = ap (take (4 * k + 4)) whole ∙ take_at (take (4 * k) es ++ four) rest' (4 * k + 4) first in
      let after : drop (4 * k + 4) es ≡ rest' = ap (drop (4 * k + 4)) whole ∙ drop_at (take (4 * k) es ++ four) rest' (4 * k + 4) first in
      let within : 4 * k + 4 ≤ length es = omega (arith, ap length whole, length-append (take (4 * k) es ++ four) rest', first) in
      let next : 4 * k + 4 ≡ 4 * (k + 1) = omega arith in
      let place : j ≡ k = c ∙ f.counted in
      record {
        started = rw next at (started-four es s room k v four s' s'' within more is f.started (rw place at p));
        four = m ∙ f.four;
        counted = d ∙ ap (λ (i : ℕ). i + 1) f.counted;
        left = rw next at (sym after);
      }

  pub fours-end : (k : ℕ) (rest : List Entry) (size count : ℕ) (s' : List ℕ) → Fours s es k rest size count s' → length rest < size → Started s es (length es / 4 * 4) s'
  fours-end k rest size count s' f h =
      let done : 4 * k ≡ length es / 4 * 4 = omega (arith, f.four, f.started.within, ap length f.left, length-drop (4 * k) es) in
      rw done at f.started

-- ---- the whole sheet

below-entries : (es : List SheetEntry) → Below 2 (entry_bits es)
unfolding entry_bits
below-entries [] = nil
below-entries (entry f a ∷ es) = below-append (below-digits 2 f) (below-append (below-digits 4 a) (below-entries es))

pub padding-fill : (n : ℕ) → (16 + 6 * n) + padding n ≡ 8 * size n
unfolding padding size
padding-fill n = omega arith

length-sheet_entries : (es : List SheetEntry) → length (entry_bits es) ≡ 6 * length es
unfolding entry_bits
length-sheet_entries [] = refl
length-sheet_entries (entry f a ∷ es) =
    omega (arith, length-append (digits 2 f) (digits 4 a ++ entry_bits es), length-append (digits 4 a) (entry_bits es), length_digits 2 f, length_digits 4 a, length-sheet_entries es)

module _ (ku kl : ℕ) (es : List SheetEntry) where
  sheet-parts : sheet_bits ku kl es ≡ (head_bits ku kl (length es) ++ entry_bits es) ++ digits (padding (length es)) 0
  unfolding sheet_bits head_bits
  sheet-parts = simp append_assoc

  below-sheet : Below 2 (sheet_bits ku kl es)
  unfolding sheet_bits
  below-sheet =
      below-append (below-digits 4 ku)
      (below-append (below-digits 2 kl)
      (below-append (below-digits 10 (length es)) (below-append (below-entries es) (below-digits (padding (length es)) 0))))

  pub length-head : length (head_bits ku kl (length es)) ≡ 16
  unfolding head_bits
  length-head =
      omega (arith, length-append (digits 4 ku) (digits 2 kl ++ digits 10 (length es)), length-append (digits 2 kl) (digits 10 (length es)), length_digits 4 ku, length_digits 2 kl, length_digits 10 (length es))

  length-sheet : length (sheet_bits ku kl es) ≡ 8 * size (length es)
  length-sheet =
      let head = head_bits ku kl (length es) in
      ap length sheet-parts
      ∙ omega (arith, length-append (head ++ entry_bits es) (digits (padding (length es)) 0), length-append head (entry_bits es), length-head, length-sheet_entries es, length_digits (padding (length es)) 0, padding-fill (length es))

  -- the bits of a sheet at the start of a buffer are its bytes there
  pub laid-sheet : (s s' : List ℕ) → Below 256 s → Below 256 s' → size (length es) ≤ length s → Laid s 0 (sheet_bits ku kl es) s'
      → s' ≡ written (bytes (sheet_bits ku kl es)) s
  unfolding written
  laid-sheet s s' b b' h p =
      let new = sheet_bits ku kl es in
      let k : ℕ = size (length es) in
      let n : length (bytes new) ≡ k = length-bytes k new length-sheet in
      let same : bits s' ≡ bits (written (bytes new) s) =
      p.is
      ∙ ap (λ (j : ℕ). new ++ drop j (bits s)) (zero-add (length new) ∙ length-sheet)
      ∙ ap₂ (λ (x y : List ℕ). x ++ y) (sym (bits-bytes k below-sheet length-sheet)) (drop-pack 8 k s)
      ∙ sym (pack-append 8 (bytes new) (drop k s))
      ∙ ap (λ (j : ℕ). bits (bytes new ++ drop j s)) (sym n) in
      sym (bytes_bits b') ∙ ap bytes same ∙ bytes_bits (below-append (below-bytes below-sheet) (below-drop (length (bytes new)) b))

-- head, entries and padding, laid one behind the other, are the sheet
module _ (s : List ℕ) (nodes : List Entry) (ku kl : ℕ) (w : Writing s nodes) where
  abbrev es : List SheetEntry
  es = listed nodes

  pub sheet-laid : (s₁ s₂ s₃ : List ℕ) (pad : ℕ) → Below 256 s → Below 256 s₃ → Laid s 0 (head_bits ku kl (length nodes)) s₁
      → Laid s₁ 16 (entry_bits (listed nodes)) s₂ → pad ≡ padding (length nodes) → Put s₂ (16 + 6 * length nodes) pad 0 s₃
      → s₃ ≡ written (bytes (sheet_bits ku kl (listed nodes))) s
  sheet-laid s₁ s₂ s₃ pad b b₃ head entries e p =
      let n : length es ≡ length nodes = length-listed nodes in
      let h : List ℕ = head_bits ku kl (length es) in
      let d : List ℕ = digits (padding (length es)) 0 in
      let first : Laid s 0 h s₁ = rw n head in
      let two = laid_more s s₁ s₂ 0 16 h (entry_bits es) first (omega (arith, length-head ku kl es)) (omega arith) entries in
      let last : Laid s₂ (16 + 6 * length nodes) d s₃ = rw (n, ← e) (put-laid s₂ s₃ (16 + 6 * length nodes) pad 0 p) in
      let three =
      laid_more s s₂ s₃ 0 (16 + 6 * length nodes) (h ++ entry_bits es) d two
      (omega (arith, length-append h (entry_bits es), length-head ku kl es, length-entries nodes)) (omega arith) last in
      laid-sheet ku kl es s s₃ b b₃ (rw n w.room) (rw (sheet-parts ku kl es) three)
