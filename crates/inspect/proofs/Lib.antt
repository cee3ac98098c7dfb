-- What the program prints.

-- how a page ends
mod PageEnd
-- there is room for what is printed at a time
mod TextRoom
