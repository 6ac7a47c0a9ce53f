-- A lemma that tells several facts at once answers a goal of as many clauses: the facts are put where the clauses ask for them. Assumes nothing.

pub two_clauses : {A B C : Type 0} → (A → B → C) → A × B → C
two_clauses f p = f p.0 p.1

pub three_clauses : {A B C D : Type 0} → (A → B → C → D) → A × (B × C) → D
three_clauses f p = f p.0 p.1.0 p.1.1

pub four_clauses : {A B C D E : Type 0} → (A → B → C → D → E) → A × (B × (C × D)) → E
four_clauses f p = f p.0 p.1.0 p.1.1.0 p.1.1.1
