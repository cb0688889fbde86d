-- A record's octets at the front of a list: what they show, and that they are the record's own.
use Prim.Native.Nat.{ℕ, ◌+◌, ◌^◌, ◌≤◌, ◌<◌}
use mathlib.Core.Path.{◌≡◌, refl, sym, ap, ◌∙◌}
use mathlib.Core.List.{List, ◌∷◌, ◌++◌, append_assoc}
use native.Mathlib.Omega.{arith}
use lib.ListN.{length, get_or, take, drop, length-append, length-drop, take-append-drop}
use lib.Seq.{get_or-drop, take_at, drop_at, take-suc, drop-cons, length-take-le, drop-drop}
use lib.Dec.{lit<}
use Rattle.octets.proofs.Below.{Below-take, Below-drop}
use Rattle.number.specs.Groups.{encoded, found, front_number}
use Rattle.number.proofs.Fronts.{encoded_front}
use Rattle.number.proofs.Forms.{front_form, own_form}
use Rattle.swap.specs.declared.kind.Kind.{Kind}
use Rattle.swap.specs.declared.kind.Kind.TheVariants.{Raw, Label, Long}
use Rattle.swap.specs.Record.{Record, Sound, OfOctets, Each, rank, rank_of, kind_of, length_limit}
use Rattle.swap.specs.Encoding.{record_octets}
use Rattle.swap.specs.Items.{front_record}
use Rattle.swap.proofs.Shown.{Shown}

-- the limit of every kind is below 2^32
limit_small : (k : Kind) → length_limit k < 2 ^ 32
unfolding length_limit
limit_small Raw = lit< tt
limit_small Label = lit< tt
limit_small Long = lit< tt

pub sound_octets : {r : Record} → Sound r → OfOctets r
sound_octets s =
    record { address = s.address; address_octets = s.address_octets; tab_octet = s.tab_octet; content_octets = s.content_octets }

pub all_octets : {rs : List Record} → Each Sound rs → Each OfOctets rs
all_octets Each.none = Each.none
all_octets (Each.more p s) = Each.more (sound_octets p) (all_octets s)

-- t is a record's octets, with others behind them
module _ (r : Record) (rest t : List ℕ) (six : length r.ads ≡ 6) (is : t ≡ record_octets r ++ rest) where
  from_tab : drop 6 t ≡ r.tab ∷ r.kind ∷ (encoded (length r.content) ++ (r.content ++ rest))
  unfolding record_octets
  from_tab = rw (is, append_assoc, append_assoc) (drop_at r.ads _ 6 (six))

  pub ads_front : take 6 t ≡ r.ads
  unfolding record_octets
  ads_front = rw (is, append_assoc, append_assoc) (take_at r.ads _ 6 (six))

  pub tab_next : get_or t 6 0 ≡ r.tab
  tab_next = sym (get_or-drop 6 t 0 0) ∙ rw from_tab

  pub kind_next : get_or t 7 0 ≡ r.kind
  kind_next = sym (get_or-drop 6 t 1 0) ∙ rw from_tab

  from_length : drop 8 t ≡ encoded (length r.content) ++ (r.content ++ rest)
  from_length = sym (drop-drop 2 6 t) ∙ rw from_tab

  pub from_content : drop (8 + length (encoded (length r.content))) t ≡ r.content ++ rest
  from_content =
      sym (drop-drop (length (encoded (length r.content))) 8 t) ∙ rw from_length (drop_at (encoded (length r.content)) _ _ refl)

  pub from_rest : drop (8 + length (encoded (length r.content)) + length r.content) t ≡ rest
  from_rest =
      sym (drop-drop (length r.content) (8 + length (encoded (length r.content))) t) ∙ rw from_content (drop_at r.content _ _ refl)

  pub long_enough : 8 + length (encoded (length r.content)) + length r.content ≤ length t
  unfolding record_octets
  long_enough = rw is (simp length-append (omega (arith, six)))

  pub rank_front : rank_of (take 7 t) ≡ rank r
  unfolding rank
  rank_front = rw (take-suc t 6 0 (omega (arith, long_enough)), ads_front, tab_next)

  length_front : Sound r → front_number (drop 8 t) ≡ found (length r.content) (length (encoded (length r.content)))
  length_front sound = rw from_length (front_form (length r.content) _ (omega (arith, sound.short, limit_small (kind_of r.kind))))

  pub record_shown : Sound r → (least : ℕ) → least ≤ rank r → Shown least t (length (encoded (length r.content))) (length r.content)
  record_shown sound least h =
      record {
        high = rw rank_front h;
        known = rw kind_next sound.known;
        front = length_front sound;
        short = rw kind_next sound.short;
        fits = long_enough;
        text = rw (kind_next, from_content, take_at r.content rest _ refl) sound.text;
      }

  pub record_front : front_record (length (encoded (length r.content))) (length r.content) t ≡ r
  unfolding front_record
  record_front = rw (ads_front, tab_next, kind_next, from_content, take_at r.content rest _ refl)

  -- what is shown of a record's octets is the record's own length
  pub own_length : (least w n : ℕ) → Shown least t w n → (length r.content ≡ n) × (length (encoded (length r.content)) ≡ w)
  own_length least w n h = own_form (length r.content) (r.content ++ rest) n w (rw from_length at h.front)

  -- so that a record whose octets are judged good is sound
  pub own_sound : OfOctets r → (least w n : ℕ) → Shown least t w n → Sound r
  own_sound octets least w n h =
      let o = own_length least w n h in
      record {
        address = six;
        address_octets = octets.address_octets;
        tab_octet = octets.tab_octet;
        known = rw kind_next at h.known;
        short = rw (kind_next, ← o.0) at h.short;
        content_octets = octets.content_octets;
        text = rw (kind_next, ← o.0, ← o.1, from_content, take_at r.content rest _ refl) at h.text;
      }

-- a good record at the front of t is sound, and its octets are those of t
module _ (least : ℕ) (t : List ℕ) (w n : ℕ) (h : Shown least t w n) (octets : (i : ℕ) → get_or t i 0 < 256) where
  content_length : length (take n (drop (8 + w) t)) ≡ n
  content_length = length-take-le n (drop (8 + w) t) (omega (arith, h.fits, length-drop (8 + w) t))

  pub rank_shown : rank (front_record w n t) ≡ rank_of (take 7 t)
  unfolding rank front_record
  rank_shown = rw (take-suc t 6 0 (omega (arith, h.fits)))

  pub shown_sound : Sound (front_record w n t)
  unfolding front_record
  shown_sound =
      record {
        address = length-take-le 6 t (omega (arith, h.fits));
        address_octets = Below-take 256 (lit< tt) 6 t octets;
        tab_octet = octets 6;
        known = h.known;
        short = rw content_length h.short;
        content_octets = Below-take 256 (lit< tt) n (drop (8 + w) t) (Below-drop 256 (lit< tt) (8 + w) t octets);
        text = h.text;
      }

  pub shown_octets : t ≡ record_octets (front_record w n t) ++ drop (8 + w + n) t
  unfolding front_record record_octets
  shown_octets =
      let f = encoded_front (drop 8 t) n w (Below-drop 256 (lit< tt) 8 t octets) h.front in
      let c : drop w (drop 8 t) ≡ take n (drop (8 + w) t) ++ drop (8 + w + n) t = drop-drop w 8 t ∙ sym (take-append-drop n (drop (8 + w) t)) ∙ rw (drop-drop n (8 + w) t) in
      sym (take-append-drop 6 t)
      ∙ ap (λ (s : List ℕ). take 6 t ++ s) (drop-cons t 6 0 (omega (arith, h.fits)) ∙ ap (λ (s : List ℕ). get_or t 6 0 ∷ s) (drop-cons t 7 0 (omega (arith, h.fits))))
      ∙ rw (content_length, append_assoc, append_assoc, ← c) (ap (λ (s : List ℕ). take 6 t ++ get_or t 6 0 ∷ get_or t 7 0 ∷ s) f.octets)
