mod Claims
