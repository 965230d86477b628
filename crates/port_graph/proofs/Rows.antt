-- Rows of next ports, one after another.
use Rattle.std.proofs.Common.{◌≡◌, ◌<◌, ◌≤◌, ◌+◌, ◌-◌, ◌++◌, ℕ, List, [], ◌∷◌, map, refl, sym, ap, ◌∙◌, subst, arith, drop, length, min, add-one}
use Rattle.std.proofs.lemmas.List.{append_assoc, append-nil}
use Rattle.std.proofs.Math.ListN.{drop_of_length-le}
use Rattle.std.proofs.Math.Seq.{drop-cons}
use Rattle.std.specs.Prelude.{Option, None, All, Contains, slice_index, slice_index_or}
use Rattle.smp_bytes.proofs.Members.{contains_here, contains_later}
use Rattle.port_graph.specs.declared.edge.Edge.{Edge}
use Rattle.port_graph.specs.Slopes.{next_port}
use Rattle.port_graph.specs.NextPorts.{indexed, AreNextPorts}
use Rattle.port_graph.specs.ByteLanes.{at, port_in, target_in, AreRouted}

-- what was made of the items so far, with what is made of those to come, is made of all
abbrev pub IsMapped : {X Y : Type 0} → (X → Y) → List X → List Y → ℕ → Type 0
IsMapped f xs done i = done ++ map f (drop i xs) ≡ map f xs

-- one more item
pub mapped_more : {Y : Type 0} (f : ℕ → Y) (xs : List ℕ) (done : List Y) (i : ℕ) → i < length xs → IsMapped f xs done i
    → IsMapped f xs (done ++ f (slice_index xs i) ∷ []) (i + 1)
mapped_more f xs done i h e =
    let x = slice_index xs i in
    append_assoc done (f x ∷ []) (map f (drop (i + 1) xs)) ∙ sym (ap (λ ys. done ++ map f ys) (drop-cons xs i 0 h ∙ (λ j. x ∷ drop (sym (add-one i) j) xs))) ∙ e

-- after the last item all is made
pub mapped_all : {X Y : Type 0} (f : X → Y) (xs : List X) (done : List Y) (i : ℕ) → length xs ≤ i → IsMapped f xs done i → done ≡ map f xs
mapped_all f xs done i h e = sym (append-nil done) ∙ sym (ap (λ ys. done ++ map f ys) (drop_of_length-le xs h)) ∙ e

map_alike : {Y : Type 0} (f g : ℕ → Y) (xs : List ℕ) → ((x : ℕ) → Contains xs x → f x ≡ g x) → map f xs ≡ map g xs
map_alike f g [] h = refl
map_alike f g (x ∷ xs) h = let first = h x (contains_here x xs) in let rest = map_alike f g xs (λ y k. h y (contains_later x y xs k)) in λ i. first i ∷ rest i

-- a target in a lane is one of the vertices
pub target_within : (vertices : List ℕ) (n first k : ℕ) → All (λ a. a < n) vertices → first < length vertices → target_in vertices first k < n
target_within vertices n first k within h = within (first + min k (length vertices - 1 - first)) 0 (omega arith)

-- and as far as there are, the next
pub target_is : (vertices : List ℕ) (first k : ℕ) → first + k < length vertices → target_in vertices first k ≡ slice_index vertices (first + k)
target_is vertices first k h = let same : first + min k (length vertices - 1 - first) ≡ first + k = omega arith in ap (slice_index vertices) same

-- the next ports to a target
abbrev pub row_to : List (List Edge) → List (List Edge) → List ℕ → ℕ → List (Option ℕ)
row_to ups downs vertices t = map (λ s. next_port (indexed ups downs) s t) vertices

module _ (ups downs : List (List Edge)) (vertices : List ℕ) (within : All (λ a. a < length ups) vertices) where
  each_within : (a : ℕ) → Contains vertices a → a < length ups
  each_within a h = subst (λ (b : ℕ). b < length ups) h.2 (within h.0 a h.1)

  -- by a lane
  pub row_in_lane : (t k : ℕ) (numbers ports : List (List ℕ)) → AreRouted ups downs t k numbers ports
      → map (λ a. port_in (at numbers a k) (at ports a k)) vertices ≡ row_to ups downs vertices t
  row_in_lane t k numbers ports are =
      map_alike (λ a. port_in (at numbers a k) (at ports a k)) (λ s. next_port (indexed ups downs) s t) vertices (λ a h. are.next a (each_within a h))

  -- by the ports of all vertices
  pub row_at : (t : ℕ) (ports : List (Option ℕ)) → AreNextPorts ups downs t ports → map (λ a. slice_index_or ports a None) vertices
      ≡ row_to ups downs vertices t
  row_at t ports are = map_alike (λ a. slice_index_or ports a None) (λ s. next_port (indexed ups downs) s t) vertices (λ a h. are.next a (each_within a h))
