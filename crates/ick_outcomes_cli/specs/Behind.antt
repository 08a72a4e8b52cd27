-- What stands on the error stream in front of its message.

-- There is a state of the error stream to which only reports led, and the call is served from it on.
pub record Behind {E : Type 0} (IsShown IsServed : E → Type 0) : Type 0 where
  pub middle : E
  pub shown : IsShown middle
  pub served : IsServed middle
