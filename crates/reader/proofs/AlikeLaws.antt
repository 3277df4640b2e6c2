-- Reading is by place alone, and nothing behind the end is read: cursors that are alike answer alike. The slice cut at the end has such a
-- cursor.
use Prim.Native.Nat.{ℕ, ◌+◌, ◌-◌, ◌*◌, ◌/◌, ◌%◌, ◌<◌, ◌≤◌, min}
use mathlib.Core.Path.{◌≡◌, refl, sym, ap, ap₂, ◌∙◌}
use mathlib.Core.List.{List}
use native.Mathlib.Omega.{arith}
use lib.ListN.{length, take, drop}
use lib.Seq.{length-take-le, take-take, get_or-take, slice, ext_get_or}
use lib.Dec.{eqb}
use borrow.Author.Tests.{eqb-true, eqb-false}
use Rattle.bits.specs.declared.Order.{Order}
use Rattle.bits.specs.Refusals.{done}
use Rattle.bits.proofs.RefusalLaws.{if_refused, if_done_lem, if_alike}
use Rattle.bits.proofs.TestLaws.{by_test}
use Rattle.bits.specs.Field.{field}
use Rattle.bits.proofs.FieldLaws.{field_same, bit_same}
use Rattle.counts.specs.Counts as C
use Rattle.counts.proofs.PlaceLaws as P
use Rattle.octets.specs.Octets.{octets}
use Rattle.octets.proofs.OctetsLaws.{length-octets, get_d_octets}
use Rattle.reader.specs.declared.Cursor.{Cursor}
use Rattle.reader.specs.Cursor.{place, stop, cursor_at, gone_to, bits_left, bytes_left, unfetched, ahead_in, cursor_refusal, counts_in, Fits, Own, Alike}
use Rattle.reader.proofs.CursorLaws.{left_stop, left_le, bytes_bits, ahead_left, refusal_own, own_done}
use Rattle.reader.specs.Answers.{ReadTold, read_refusal, read_of, bytes_refusal, bytes_of, bytes_out, manual_refusal, peek_of, consume_of, refill_of, remainder_refusal, start_of, remainder_of, partial_of, lower_refusal}
use Rattle.reader.proofs.AnswerLaws.{read_granted, bytes_granted, manual_granted, remainder_granted}
use Rattle.reader.proofs.ReadLaws.{read_refused, read_value, read_place, bytes_advanced, consume_advanced, refill_advanced}

-- a field within the first n bytes is that of those bytes alone
field_front : (o : Order) (s : List ℕ) (n p w : ℕ) → p + w ≤ 8 * n → field o (take n s) p w ≡ field o s p w
field_front o s n p w h =
    field_same o (take n s) s p p w (λ k a. bit_same o (take n s) s (p + k) (get_or-take n s ((p + k) / 8) 0 (omega arith)))

-- a read of bytes that is refused stays where it was
bytes_stay : (o : Order) (s : List ℕ) (c : Cursor) (n : ℕ) → (bytes_refusal o s c n ≡ done → ⊥) → place (bytes_of o s c n).cursor ≡ place c
unfolding bytes_of
bytes_stay o s c n z = ap place (sym (if_refused refl _ _ z))

-- so does a consume, and one that is done takes its bits off the lookahead that is told
consume_stays : (o : Order) (s : List ℕ) (c : Cursor) (n : ℕ) → (manual_refusal o s c n ≡ done → ⊥) → (consume_of o s c n).cursor ≡ c
unfolding consume_of
consume_stays o s c n z = sym (if_refused refl _ _ z)

min_less : (a b n : ℕ) → min (a - n) (b - n) ≡ min a b - n
min_less a b n = omega arith

ahead_consumed : (o : Order) (s : List ℕ) (c : Cursor) (n : ℕ) → manual_refusal o s c n ≡ done → ahead_in s (consume_of o s c n).cursor ≡ ahead_in s c - n
unfolding consume_of ahead_in cursor_at
ahead_consumed o s c n e =
    let d = cursor_at o s c (C.after_take n (counts_in c)) in
    let gone : (consume_of o s c n).cursor ≡ d = sym (if_done_lem refl d c e) in
    ap₂ min (ap (λ (x : Cursor). x.lookahead) gone) (consume_advanced o s c n e).left ∙ min_less c.lookahead (bits_left s c) n

-- a refill fills the lookahead up to its last byte, as far as bits are left
filled : (u r b : ℕ) → r ≤ 63 → b ≤ 8 * u + r → min (r + 8 * min u (7 - r / 8)) b ≡ min (56 + r % 8) b
filled u r b a l = omega arith

ahead-refilled : (o : Order) (s : List ℕ) (c : Cursor) → cursor_refusal o s c ≡ done → ahead_in s (refill_of o s c).cursor ≡ min (56 + c.lookahead % 8) (bits_left s c)
unfolding refill_of ahead_in cursor_at
ahead-refilled o s c e =
    let h = (refusal_own e).fits in
    let d = cursor_at o s c (C.after_refill (length s) (counts_in c)) in
    let gone : (refill_of o s c).cursor ≡ d = sym (if_done_lem refl d c e) in
    let left : bits_left s (refill_of o s c).cursor ≡ bits_left s c = omega (arith, (refill_advanced o s c e).left) in
    ap₂ min (ap (λ (x : Cursor). x.lookahead) gone) left
    ∙ filled (length s - c.offset) c.lookahead (bits_left s c) h.within.small (left_le h)

-- what is not yet fetched lies behind the lookahead that is told
behind-ahead : (e p q l : ℕ) → p + l ≡ 8 * q → p ≤ e → e / 8 - q ≡ e / 8 - (p + min l (e - p)) / 8
behind-ahead e p q l a b = omega arith

unfetched-behind : (s : List ℕ) (c : Cursor) → Fits s c → unfetched s c ≡ stop s c / 8 - (place c + ahead_in s c) / 8
unfolding unfetched stop ahead_in bits_left
unfetched-behind s c h = behind-ahead c.end (place c) c.offset c.lookahead (omega (arith, h.within.behind)) h.reached

-- ---- alike

module _ (o : Order) (s : List ℕ) (c : Cursor) (t : List ℕ) (d : Cursor) (h : Alike o s c t d) where
  mine : Own o s c
  mine = refusal_own h.belongs

  its : Own o t d
  its = refusal_own h.too

  -- fields before the stop are the same
  pub alike_field : (p w : ℕ) → p + w ≤ stop s c → field o s p w ≡ field o t p w
  alike_field p w a =
      let n = (stop s c + 7) / 8 in
      let b : p + w ≤ 8 * n = omega arith in
      sym (field_front o s n p w b) ∙ ap (λ (l : List ℕ). field o l p w) h.front ∙ field_front o t n p w b

  pub alike_left : bits_left s c ≡ bits_left t d
  alike_left = omega (arith, left_stop mine.fits, left_stop its.fits, h.here, h.ends)

  pub alike_bytes : bytes_left s c ≡ bytes_left t d
  unfolding bytes_left
  alike_bytes = ap (λ (n : ℕ). n / 8) alike_left

  -- ---- fields

  pub alike_refusal : (w : ℕ) → read_refusal o s c w ≡ read_refusal o t d w
  unfolding read_refusal
  alike_refusal w = rw (h.belongs, h.too, alike_left)

  pub alike_read : (w : ℕ) → ((read_of o s c w).value ≡ (read_of o t d w).value) × (place (read_of o s c w).cursor ≡ place (read_of o t d w).cursor)
  alike_read w =
      by_test (eqb (read_refusal o s c w) done)
      (λ q.
      let e = eqb-true _ _ q in
      let f = sym (alike_refusal w) ∙ e in
      let (own, _, l) = read_granted o s c w e in (
        read_value o s c w e ∙ alike_field (place c) w (omega (arith, l, left_stop own.fits)) ∙ ap (λ (k : ℕ). field o t k w) h.here ∙ sym (read_value o t d w f),
        read_place o s c w e ∙ ap (λ (k : ℕ). k + w) h.here ∙ sym (read_place o t d w f),
      ))
      (λ q.
      let e = read_refused o s c w (eqb-false _ _ q) in
      let f = read_refused o t d w (λ z. eqb-false _ _ q (alike_refusal w ∙ z)) in (
        ap (λ (r : ReadTold ℕ). r.value) e ∙ sym (ap (λ (r : ReadTold ℕ). r.value) f),
        ap (λ (r : ReadTold ℕ). place r.cursor) e ∙ h.here ∙ sym (ap (λ (r : ReadTold ℕ). place r.cursor) f),
      ))

  -- ---- bytes

  pub alike_fill : (n : ℕ) → bytes_refusal o s c n ≡ bytes_refusal o t d n
  unfolding bytes_refusal
  alike_fill n = rw (h.belongs, h.too, alike_bytes)

  pub alike_bytes_place : (n : ℕ) → place (bytes_of o s c n).cursor ≡ place (bytes_of o t d n).cursor
  alike_bytes_place n =
      by_test (eqb (bytes_refusal o s c n) done)
      (λ q.
      let e = eqb-true _ _ q in
      (bytes_advanced o s c n e).ahead ∙ ap (λ (k : ℕ). k + 8 * n) h.here ∙ sym (bytes_advanced o t d n (sym (alike_fill n) ∙ e)).ahead)
      (λ q. bytes_stay o s c n (eqb-false _ _ q) ∙ h.here ∙ sym (bytes_stay o t d n (λ z. eqb-false _ _ q (alike_fill n ∙ z))))

  -- the bytes are fields before the stop
  alike_octets : (n : ℕ) → bytes_refusal o s c n ≡ done → octets o s (place c) n ≡ octets o t (place d) n
  alike_octets n e =
      let (own, l) = bytes_granted o s c n e in
      ext_get_or 0 (octets o s (place c) n) (octets o t (place d) n) (length-octets o s (place c) n ∙ sym (length-octets o t (place d) n))
      (λ i a.
      let b : i < n = omega (arith, a, length-octets o s (place c) n) in
      get_d_octets o s (place c) n i b
      ∙ alike_field (place c + 8 * i) 8 (omega (arith, b, bytes_bits own.fits l, left_stop own.fits))
      ∙ ap (λ (k : ℕ). field o t (k + 8 * i) 8) h.here
      ∙ sym (get_d_octets o t (place d) n i b))

  pub alike_out : (out : List ℕ) → bytes_out o s c out ≡ bytes_out o t d out
  unfolding bytes_out
  alike_out out = if_alike (alike_fill (length out)) (alike_octets (length out)) refl

  -- ---- another end

  pub alike_lower : (e : ℕ) → lower_refusal o s c e ≡ lower_refusal o t d e
  unfolding lower_refusal stop
  alike_lower e = rw (h.belongs, h.too, h.here, h.ends)

  -- ---- the remainder

  pub alike_remainder : remainder_refusal o s c ≡ remainder_refusal o t d
  unfolding remainder_refusal stop
  alike_remainder = rw (h.belongs, h.too, h.ends)

  -- its part lies before the stop
  alike_part : (at : ℕ) → slice at (stop s c / 8) s ≡ slice at (stop t d / 8) t
  alike_part at =
      let n = stop s c / 8 in
      let m = (stop s c + 7) / 8 in
      let l : n ≤ m = omega arith in
      ap (drop at) (sym (take-take n m s l) ∙ ap (take n) h.front ∙ take-take n m t l) ∙ ap (λ (k : ℕ). slice at (k / 8) t) h.ends

  pub alike_start : start_of o s c ≡ start_of o t d
  unfolding start_of
  alike_start =
      if_alike alike_remainder
      (λ e.
      let f = sym alike_remainder ∙ e in
      let a = (remainder_granted o s c e).0.fits.within in
      let b = (remainder_granted o t d f).0.fits.within in
      omega (arith, a.behind, b.behind, h.here)) refl

  pub alike_rest : remainder_of o s c ≡ remainder_of o t d
  unfolding remainder_of stop
  alike_rest = if_alike alike_remainder (λ e. alike_part (start_of o s c) ∙ ap (λ (k : ℕ). slice k (d.end / 8) t) alike_start) refl

  pub alike_partial : partial_of o s c ≡ partial_of o t d
  unfolding partial_of stop
  alike_partial =
      let value =
      if_alike alike_remainder
      (λ e.
      let (own, even) = remainder_granted o s c e in
      let (theirs, _) = remainder_granted o t d (sym alike_remainder ∙ e) in
      let n : c.lookahead % 8 ≡ d.lookahead % 8 = omega (arith, own.fits.within.behind, theirs.fits.within.behind, h.here) in
      let v = alike_field (place c) (c.lookahead % 8) (omega (arith, own.fits.within.behind, own.fits.reached, even)) in
      let w = v ∙ ap₂ (field o t) h.here n in
      λ i. record { partial_bits = n i; partial_byte = w i }) refl in
      λ i. record { refusal = alike_remainder i; value = value i }

  -- ---- manual mode

  -- a refill makes the lookahead one by place alone
  pub alike_refilled : ahead_in s (refill_of o s c).cursor ≡ ahead_in t (refill_of o t d).cursor
  alike_refilled =
      let n : c.lookahead % 8 ≡ d.lookahead % 8 = omega (arith, mine.fits.within.behind, its.fits.within.behind, h.here) in
      ahead-refilled o s c h.belongs ∙ ap₂ (λ (r b : ℕ). min (56 + r) b) n alike_left ∙ sym (ahead-refilled o t d h.too)

  -- what is held alike is looked at alike
  module _ (held : ahead_in s c ≡ ahead_in t d) where
    pub alike_unfetched : unfetched s c ≡ unfetched t d
    alike_unfetched =
        unfetched-behind s c mine.fits
        ∙ (λ i. h.ends i / 8 - (h.here i + held i) / 8)
        ∙ sym (unfetched-behind t d its.fits)

    pub alike_manual : (n : ℕ) → manual_refusal o s c n ≡ manual_refusal o t d n
    unfolding manual_refusal
    alike_manual n = rw (h.belongs, h.too, held)

    pub alike_peek : (n : ℕ) → peek_of o s c n ≡ peek_of o t d n
    unfolding peek_of
    alike_peek n =
        let same = alike_manual n in
        let value =
        if_alike same
        (λ e.
        let (own, l) = manual_granted o s c n e in
        alike_field (place c) n (omega (arith, l, ahead_left own.fits, left_stop own.fits)) ∙ ap (λ (k : ℕ). field o t k n) h.here) refl in
        λ i. record { refusal = same i; value = value i }

    -- the place, and the lookahead again
    pub alike_consume : (n : ℕ) →
        let x = (consume_of o s c n).cursor in
        let y = (consume_of o t d n).cursor in
        (place x ≡ place y) × (ahead_in s x ≡ ahead_in t y)
    alike_consume n =
        by_test (eqb (manual_refusal o s c n) done)
        (λ q.
        let e = eqb-true _ _ q in
        let f = sym (alike_manual n) ∙ e in
        ((consume_advanced o s c n e).ahead ∙ ap (λ (k : ℕ). k + n) h.here ∙ sym (consume_advanced o t d n f).ahead, ahead_consumed o s c n e ∙ ap (λ (k : ℕ). k - n) held ∙ sym (ahead_consumed o t d n f)))
        (λ q.
        let e = consume_stays o s c n (eqb-false _ _ q) in
        let f = consume_stays o t d n (λ z. eqb-false _ _ q (alike_manual n ∙ z)) in
        (ap place e ∙ h.here ∙ sym (ap place f), ap (ahead_in s) e ∙ held ∙ sym (ap (ahead_in t) f)))

-- ---- the slice cut at the end

module _ (o : Order) (s : List ℕ) (c : Cursor) (own : cursor_refusal o s c ≡ done) (even : stop s c % 8 ≡ 0) where
  abbrev cut : List ℕ
  cut = take (stop s c / 8) s

  pub cut_length : 8 * length cut ≡ stop s c
  unfolding stop
  cut_length = let h = (refusal_own own).fits in omega (arith, length-take-le (c.end / 8) s (omega (arith, h.stops)), even)

  -- a cursor at the same place on it that stops where it ends is alike
  pub cut_alike : (d : Cursor) → cursor_refusal o cut d ≡ done → place d ≡ place c → stop cut d ≡ 8 * length cut → Alike o s c cut d
  cut_alike d theirs here whole =
      let n = stop s c / 8 in
      let m : (stop s c + 7) / 8 ≡ n = omega (arith, even) in
      record {
        belongs = own;
        too = theirs;
        here = sym here;
        ends = sym (whole ∙ cut_length);
        front = ap (λ (k : ℕ). take k s) m ∙ sym (take-take n n s (omega arith)) ∙ ap (λ (k : ℕ). take k cut) (sym m);
      }

  -- and there is one
  pub cut_there : let d = gone_to o cut c (place c) in (cursor_refusal o cut d ≡ done) × (place d ≡ place c) × (stop cut d ≡ 8 * length cut)
  unfolding stop gone_to cursor_at
  cut_there =
      let h = (refusal_own own).fits in
      let n = cut_length in (
        own_done
            (record {
              fits =
                  record {
                    short = omega (arith, n, h.stops, h.short);
                    within = P.at_within (omega (arith, n, h.reached));
                    reached = omega (arith, P.at_place (place c), h.reached);
                    stops = omega (arith, n);
                  };
              holds = refl;
            }),
        P.at_place (place c),
        sym n,
      )
